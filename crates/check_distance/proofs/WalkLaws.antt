-- What the loop that lists a walk keeps: those listed lead from i to where it stands, and from there as many steps as
-- are left lead to i.
use Rattle.lib_base.proofs.Prelude.{ℕ, ◌≤◌, ◌<◌, ◌+◌, ◌-◌, suc, ◌≡◌, ◌∙◌, sym, ap, subst, true, Bool, ◌&&◌}
use Rattle.lib_base.proofs.Prelude.{and-eq-true_iff, List, [], ◌∷◌, ◌++◌, append_assoc, length, get_or, drop, length-set}
use Rattle.lib_base.proofs.Prelude.{set, length-append, drop-cons, add-one, eqb-true, arith}
use lib.Seq.{set_at}
use Rattle.lib_base.specs.Basics.{All}
use Rattle.lib_base.proofs.Tools.{all_join}
use Rattle.lib_bits.specs.Bits.{bit}
use Rattle.std.specs.Prelude.{Option, Some}
use Rattle.std.specs.Option.{IsSome}
use Rattle.check_graph.specs.Any.{any_below}
use Rattle.check_graph.specs.First.{FirstOf}
use Rattle.check_graph.specs.Matrix.{cell}
use Rattle.check_graph.proofs.Any.{any_same}
use Rattle.check_distance.specs.Circle.{Chain, Circle}
use Rattle.check_distance.specs.Layers.{layer, walks_on, Layered, Walked}
use Rattle.check_distance.proofs.Shorter.{chain_on}
use Rattle.check_graph.proofs.First.{first_there}

-- from i along the list to z
abbrev Lead : (ℕ → ℕ → Bool) → ℕ → List ℕ → ℕ → Type 0
Lead dep i [] z = z ≡ i
Lead dep i (x ∷ l) z = (x ≡ i) × Chain dep x l z

lead_on : (dep : ℕ → ℕ → Bool) (i : ℕ) (l : List ℕ) (z h : ℕ) → Lead dep i l z → dep z h ≡ true → Lead dep i (l ++ (z ∷ [])) h
lead_on dep i [] z h w d = (w, d)
lead_on dep i (x ∷ l) z h w d = (w.0, chain_on dep x l z h w.1 d)

lead_home : (dep : ℕ → ℕ → Bool) (i : ℕ) (l : List ℕ) → 0 < length l → Lead dep i l i → Circle dep l
lead_home dep i [] b w = absurd (omega arith)
lead_home dep i (x ∷ l) b w = subst (λ (z : ℕ). Chain dep x l z) (sym w.0) w.1

module _ (m : List ℕ) (n i r : ℕ) (list₀ : List ℕ) where
  abbrev dep : ℕ → ℕ → Bool
  dep = λ a b. cell m a b

  pub record Going (list : List ℕ) (at t : ℕ) : Type 0 where
    pub passed : List ℕ
    pub count : length passed ≡ t
    pub below : All (λ j. j < n) passed
    pub lead : Lead dep i passed at
    pub left : layer dep n (r - t) i at ≡ true
    pub here : at < n
    pub within : t ≤ r
    pub bytes : list ≡ passed ++ drop t list₀
    pub long : length list ≡ length list₀

  -- there is a next one, and from it one step less leads to i
  onward : (s : List ℕ) (at t : ℕ) → Layered m n i s (r - 1) → t < r → any_below n (walks_on m (get_or s (r - 1 - t) 0) at) ≡ layer dep n (r - t) i at
  unfolding layer walks_on
  onward s at t w b =
      let k = r - 1 - t in
      let z : r - t ≡ suc (r - 1 - t) = omega arith in
      rw z (any_same n (walks_on m (get_or s k 0) at) (λ x. dep at x && layer dep n k i x) (λ x c. ap (λ v. dep at x && v) (w.walks k x (omega arith) c)))

  pub next_there : {s list : List ℕ} {at t : ℕ} (o : Option ℕ) → Going list at t → Layered m n i s (r - 1) → t < r
      → FirstOf (walks_on m (get_or s (r - 1 - t) 0) at) n o → IsSome o
  next_there {s} {list} {at} {t} o g w b low = first_there _ n o low (onward s at t w b ∙ g.left)

  next : (s : List ℕ) (at t h : ℕ) → Layered m n i s (r - 1) → t < r → FirstOf (walks_on m (get_or s (r - 1 - t) 0) at) n (Some h)
      → (h < n) × (dep at h ≡ true) × (layer dep n (r - (t + 1)) i h ≡ true)
  unfolding walks_on
  next s at t h w b low =
      let k = r - 1 - t in
      let y : r - (t + 1) ≡ r - 1 - t = omega arith in
      let q = (and-eq-true_iff (dep at h) (bit (get_or s k 0) h)).0 low.1 in
      (low.0, q.0, rw y (sym (w.walks k h (omega arith) low.0) ∙ q.1))

  pub going_turn : {s list : List ℕ} {at t h : ℕ} {o : Option ℕ} → Going list at t → 64 ≤ length list₀ → n ≤ 64 → r ≤ n → Layered m n i s (r - 1) → t < r
      → FirstOf (walks_on m (get_or s (r - 1 - t) 0) at) n o → o ≡ Some h → Going (set list t at) h (t + 1)
  going_turn {s} {list} {at} {t} {h} g l few c w b low e =
      let v = next s at t h w b (rw e at low) in
      let p = g.passed in
      let inside : t < length list₀ = omega arith in
      let written : set (p ++ (get_or list₀ t 0 ∷ drop (suc t) list₀)) t at ≡ p ++ (at ∷ drop (suc t) list₀) =
      set_at p (get_or list₀ t 0) (drop (suc t) list₀) at t g.count in
      record {
        passed = p ++ (at ∷ []);
        count = rw length-append (omega (arith, g.count));
        below = all_join (λ j. j < n) p (at ∷ []) g.below (g.here, tt);
        lead = lead_on dep i p at h g.lead v.1;
        left = v.2;
        here = v.0;
        within = omega arith;
        bytes =
            ap (λ (x : List ℕ). set x t at) (g.bytes ∙ ap (λ (x : List ℕ). p ++ x) (drop-cons list₀ t 0 inside))
            ∙ written ∙ rw (add-one t) (sym (append_assoc p (at ∷ []) (drop (suc t) list₀)));
        long = rw length-set g.long;
      }

  pub going_end : {list : List ℕ} {at t : ℕ} → Going list at t → 0 < r → r ≤ t → Walked m n r list₀ list
  unfolding layer
  going_end {list} {at} {t} g b h =
      let q : t ≡ r = omega (arith, g.within) in
      let z : r - t ≡ 0 = omega arith in
      let home : i ≡ at = eqb-true i at (rw z at g.left) in
      record {
        members = g.passed;
        count = g.count ∙ q;
        below = g.below;
        circle = lead_home dep i g.passed (omega (arith, g.count)) (rw (← home) at g.lead);
        bytes = rw (← q) g.bytes;
      }
