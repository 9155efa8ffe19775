-- What the evaluator finds turn by turn is what is found with the values that each phase ends in: a turn comes after
-- its needs, whose values stay. So an event runs over exactly if some behaviour does in one of its turns.
use Rattle.lib_base.proofs.Prelude.{ℕ, ◌≤◌, ◌<◌, suc, zero, ◌≡◌, refl, ◌∙◌, sym, ap, true, false, Bool, ◌||◌}
use Rattle.lib_base.proofs.Prelude.{false≢true, true≢false, ◌≢◌, ◌⊎◌, ⊎_elim, inr, inl, List, [], ◌∷◌, length, get_or}
use Rattle.lib_base.proofs.Prelude.{length-set, set, get_or-set_other, eqb, arith}
use Rattle.lib_base.specs.Basics.{All}
use Rattle.lib_base.proofs.Tools.{or_either, all_imp}
use Rattle.spec_language.specs.Syntax.{Expr, con, name, app1, app2, app3, Program}
use Rattle.spec_language.specs.Dependence.{Response, follows, takes, defers, keeps, size, no_event, response, mentions, needs, depends_on}
use Rattle.spec_language.specs.Order.{up_to, early, met_at_once, phase_one}
use Rattle.spec_language.specs.Valid.{Valid}
use Rattle.spec_semantics.specs.Meaning.{at, first_step, in_turn, first_phase}
use Rattle.spec_semantics.specs.Event.{later_phase, event, again_step}
use Rattle.spec_semantics.proofs.Graph.{Marked, Unmarked, marked_set}
use Rattle.spec_semantics.proofs.OrderLaws.{Ordered, mark_all, unmarked_set, length_met, met_late, phase_one_ordered, phase_one_early, phase_one_marks}
use Rattle.spec_semantics.proofs.Solution.{own, value_same, or_first, or_second, pick_same, own_same, needed}
use Rattle.spec_semantics.specs.OverMeaning.{over_in, first_over, later_over, again_over, any_of, turns_over, event_over}

-- ---- what an expression finds hangs on the names in it

pub over_same : (f g : ℕ → ℕ) (x : Expr) → ((j : ℕ) → mentions j x ≡ true → f j ≡ g j) → over_in f x ≡ over_in g x
unfolding over_in mentions
over_same f g (con w) h = refl
over_same f g (name i) h = refl
over_same f g (app1 k a) h = simp (value_same f g a h, over_same f g a h)
over_same f g (app2 k a b) h =
    let p : (j : ℕ) → mentions j a ≡ true → f j ≡ g j = λ j m. h j (or_first (mentions j a) (mentions j b) m) in
    let q : (j : ℕ) → mentions j b ≡ true → f j ≡ g j = λ j m. h j (or_second (mentions j a) (mentions j b) m) in
    simp (value_same f g a p, value_same f g b q, over_same f g a p, over_same f g b q)
over_same f g (app3 k a b c) h =
    let p : (j : ℕ) → mentions j a ≡ true → f j ≡ g j = λ j m. h j (or_first (mentions j a) _ m) in
    let q : (j : ℕ) → mentions j b ≡ true → f j ≡ g j = λ j m. h j (or_second (mentions j a) _ (or_first (mentions j b) (mentions j c) m)) in
    let r : (j : ℕ) → mentions j c ≡ true → f j ≡ g j = λ j m. h j (or_second (mentions j a) _ (or_second (mentions j b) (mentions j c) m)) in
    simp (value_same f g a p, value_same f g b q, value_same f g c r, over_same f g a p, over_same f g b q, over_same f g c r)

-- ---- what a behaviour finds, given the values of all

-- in phase one, from the store s, and the second time
abbrev pub first_finds : List ℕ → (ℕ → ℕ) → ℕ → Response → Bool
first_finds s look i (follows x) = over_in look x
first_finds s look i (takes x) = over_in (own i (at s i) look) x
first_finds s look i (defers x) = false
first_finds s look i keeps = false

abbrev pub again_finds : (ℕ → ℕ) → Response → Bool
again_finds look (follows x) = over_in look x
again_finds look (takes x) = false
again_finds look (defers x) = false
again_finds look keeps = false

first_local : (s : List ℕ) (i : ℕ) (r : Response) (f g : ℕ → ℕ) → ((j : ℕ) → needs i j r ≡ true → f j ≡ g j) → first_finds s f i r ≡ first_finds s g i r
first_local s i (follows x) f g h = over_same f g x h
first_local s i (takes x) f g h =
    over_same (own i (at s i) f) (own i (at s i) g) x (λ j m. pick_same (eqb i j) _ _ _ _ (λ u. refl) (λ u. h j (needed i j x m u)))
first_local s i (defers x) f g h = refl
first_local s i keeps f g h = refl

again_local : (i : ℕ) (r : Response) (f g : ℕ → ℕ) → ((j : ℕ) → needs i j r ≡ true → f j ≡ g j) → again_finds f r ≡ again_finds g r
again_local i (follows x) f g h = over_same f g x h
again_local i (takes x) f g h = refl
again_local i (defers x) f g h = refl
again_local i keeps f g h = refl

-- a turn finds it, the own place being as at the start
first_found : (s₀ : List ℕ) (i : ℕ) (r : Response) (s : List ℕ) → at s i ≡ at s₀ i → first_over s r ≡ first_finds s₀ (at s) i r
first_found s₀ i (follows x) s h = refl
first_found s₀ i (takes x) s h = over_same (at s) (own i (at s₀ i) (at s)) x (λ j m. own_same i (at s₀ i) (at s) j h)
first_found s₀ i (defers x) s h = refl
first_found s₀ i keeps s h = refl

again_found : (r : Response) (s : List ℕ) → again_over s r ≡ again_finds (at s) r
again_found (follows x) s = refl
again_found (takes x) s = refl
again_found (defers x) s = refl
again_found keeps s = refl

-- and sets its own place only
first_only : (i j : ℕ) (r : Response) (s : List ℕ) → j ≢ i → at (first_step i r s) j ≡ at s j
first_only i j (follows x) s h = get_or-set_other s i j _ 0 h
first_only i j (takes x) s h = get_or-set_other s i j _ 0 h
first_only i j (defers x) s h = refl
first_only i j keeps s h = refl

again_only : (i j : ℕ) (r : Response) (s : List ℕ) → j ≢ i → at (again_step i r s) j ≡ at s j
again_only i j (follows x) s h = get_or-set_other s i j _ 0 h
again_only i j (takes x) s h = refl
again_only i j (defers x) s h = refl
again_only i j keeps s h = refl

-- ---- some member of a list, and some number below n

unfoldable some_of : (ℕ → Bool) → List ℕ → Bool
some_of f [] = false
some_of f (i ∷ is) = f i || some_of f is

some_found : (n : ℕ) (f : ℕ → Bool) (is : List ℕ) → All (λ i. i < n) is → some_of f is ≡ true → (x : ℕ) × (x < n) × (f x ≡ true)
unfolding some_of
some_found n f [] a h = absurd (false≢true h)
some_found n f (i ∷ is) a h = ⊎_elim (λ k. (i, a.0, k)) (λ k. some_found n f is a.1 k) (or_either (f i) (some_of f is) h)

some_member : (f : ℕ → Bool) (is : List ℕ) (m : List Bool) (x : ℕ) → Marked (mark_all is m) x → f x ≡ true → Marked m x ⊎ (some_of f is ≡ true)
unfolding some_of
some_member f [] m x k h = inl k
some_member f (i ∷ is) m x k h =
    ⊎_elim
    (λ q. ⊎_elim (λ t. inr (or_first (f i) (some_of f is) (ap f (sym t) ∙ h))) (λ t. inl t) (marked_set m i x q))
    (λ q. inr (or_second (f i) (some_of f is) q))
    (some_member f is (set m i true) x k h)

any_found : (n : ℕ) (f : ℕ → Bool) → any_of (up_to n f) ≡ true → (x : ℕ) × (x < n) × (f x ≡ true)
unfolding any_of up_to
any_found zero f h = absurd (false≢true h)
any_found (suc n) f h =
    ⊎_elim (λ k. (0, omega arith, k)) (λ k. let r = any_found n (λ i. f (suc i)) k in (suc r.0, omega (arith, r.1), r.2))
    (or_either (f 0) (any_of (up_to n (λ i. f (suc i)))) h)

any_at : (n : ℕ) (f : ℕ → Bool) (x : ℕ) → x < n → f x ≡ true → any_of (up_to n f) ≡ true
unfolding any_of up_to
any_at zero f x b h = absurd (omega arith)
any_at (suc n) f zero b h = or_first (f 0) (any_of (up_to n (λ i. f (suc i)))) h
any_at (suc n) f (suc x) b h = or_second (f 0) (any_of (up_to n (λ i. f (suc i)))) (any_at n (λ i. f (suc i)) x (omega arith) h)

-- ---- along the order

module _ (p : Program) (v : Valid p) (e : ℕ) (step : ℕ → Response → List ℕ → List ℕ) (g : List ℕ → Response → Bool) (finds : ℕ → (ℕ → ℕ) → Bool) (s₀ : List ℕ)
    (local : (i : ℕ) (f h : ℕ → ℕ) → ((j : ℕ) → depends_on p e i j ≡ true → f j ≡ h j) → finds i f ≡ finds i h)
    (found : (i : ℕ) (s : List ℕ) → at s i ≡ at s₀ i → g s (response p e i) ≡ finds i (at s))
    (only : (i j : ℕ) (r : Response) (s : List ℕ) → j ≢ i → at (step i r s) j ≡ at s j) where
  -- what is marked stays
  kept : (is : List ℕ) (m : List Bool) (s : List ℕ) → length m ≡ size p → Ordered (size p) (depends_on p e) m is → (j : ℕ) → Marked m j
      → at (in_turn p e step is s) j ≡ at s j
  unfolding in_turn
  kept [] m s l o j k = refl
  kept (i ∷ is) m s l o j k =
      let other : j ≢ i = λ t. true≢false (sym k ∙ ap (λ x. get_or m x false) t ∙ o.1) in
      kept is (set m i true) (step i (response p e i) s) (simp length-set l) o.3 j (get_or-set_other m i j true false other ∙ k) ∙ only i j (response p e i) s other

  along : (is : List ℕ) (m : List Bool) (s : List ℕ) → length m ≡ size p → Ordered (size p) (depends_on p e) m is
      → ((x : ℕ) → Unmarked m x → at s x ≡ at s₀ x) → turns_over p e g step is s ≡ some_of (λ i. finds i (at (in_turn p e step is s))) is
  unfolding turns_over some_of in_turn
  along [] m s l o h = refl
  along (i ∷ is) m s l o h =
      let last : List ℕ = in_turn p e step (i ∷ is) s in
      let here : g s (response p e i) ≡ finds i (at last) =
      found i s (h i o.1) ∙ local i (at s) (at last) (λ j d. sym (kept (i ∷ is) m s l o j (o.2 j d))) in
      let b : i < length m = omega (arith, o.0) in
      let rest = along is (set m i true) (step i (response p e i) s) (simp length-set l) o.3
      (λ x u. let k = unmarked_set m i x b u in only i x (response p e i) s (λ t. k.0 (sym t)) ∙ h x k.1) in
      joined here rest
    where
      joined : {a b c d : Bool} → a ≡ b → c ≡ d → a || c ≡ b || d
      joined x y = λ k. x k || y k

-- ---- an event

module _ (p : Program) (v : Valid p) (e : ℕ) (declared : e ≤ no_event p) (s : List ℕ) where
  abbrev first : List ℕ
  first = first_phase p e s

  abbrev last : List ℕ
  last = event p e s

  -- behaviour x finds something: in phase one, as a later handler, the second time
  abbrev pub Finds : ℕ → Type 0
  Finds x =
      (first_finds s (at first) x (response p e x) ≡ true)
      ⊎ ((later_over first (response p e x) ≡ true) ⊎ (again_finds (at last) (response p e x) ≡ true))

  first_is : turns_over p e first_over first_step (phase_one p e) s ≡ some_of (λ i. first_finds s (at first) i (response p e i)) (phase_one p e)
  unfolding first_phase
  first_is =
      along p v e first_step first_over (λ i look. first_finds s look i (response p e i)) s (λ i f h k. first_local s i (response p e i) f h k)
      (λ i t k. first_found s i (response p e i) t k) first_only (phase_one p e) (met_at_once p e) s (length_met p e) (phase_one_ordered p e v.known) (λ x u. refl)

  again_is : turns_over p e again_over again_step (phase_one p e) (later_phase p e first) ≡ some_of (λ i. again_finds (at last) (response p e i)) (phase_one p e)
  unfolding event
  again_is =
      along p v e again_step again_over (λ i look. again_finds look (response p e i)) (later_phase p e first) (λ i f h k. again_local i (response p e i) f h k)
      (λ i t k. again_found (response p e i) t) again_only (phase_one p e) (met_at_once p e) (later_phase p e first) (length_met p e) (phase_one_ordered p e v.known)
      (λ x u. refl)

  below : All (λ i. i < size p) (phase_one p e)
  below = all_imp _ _ (λ i h. h.0) (phase_one p e) (phase_one_early p e v.known)

  -- who has no turn finds nothing
  late_first : (look : ℕ → ℕ) (x : ℕ) (r : Response) → early r ≡ false → first_finds s look x r ≡ true → ⊥
  late_first look x (follows y) h k = true≢false h
  late_first look x (takes y) h k = true≢false h
  late_first look x (defers y) h k = false≢true k
  late_first look x keeps h k = false≢true k

  late_again : (look : ℕ → ℕ) (r : Response) → early r ≡ false → again_finds look r ≡ true → ⊥
  late_again look (follows y) h k = true≢false h
  late_again look (takes y) h k = false≢true k
  late_again look (defers y) h k = false≢true k
  late_again look keeps h k = false≢true k

  everyone : (f : ℕ → Bool) → ((x : ℕ) → early (response p e x) ≡ false → f x ≡ true → ⊥) → (x : ℕ) → x < size p → f x ≡ true → some_of f (phase_one p e) ≡ true
  everyone f late x b h =
      ⊎_elim (λ m. absurd (late x (met_late p e x b m) h)) (λ k. k) (some_member f (phase_one p e) (met_at_once p e) x (phase_one_marks p v e declared x b) h)

  -- the three parts, and what a behaviour finds in each
  abbrev first_part : Bool
  first_part = turns_over p e first_over first_step (phase_one p e) s

  abbrev later_part : Bool
  later_part = any_of (up_to (size p) (λ i. later_over first (response p e i)))

  abbrev again_part : Bool
  again_part = turns_over p e again_over again_step (phase_one p e) (later_phase p e first)

  abbrev in_first : ℕ → Bool
  in_first i = first_finds s (at first) i (response p e i)

  abbrev in_again : ℕ → Bool
  in_again i = again_finds (at last) (response p e i)

  pub event_finds : event_over p e s ≡ true → (x : ℕ) × (x < size p) × Finds x
  unfolding event_over
  event_finds h =
      ⊎_elim
      (λ k. let r = some_found (size p) in_first (phase_one p e) below (sym first_is ∙ k) in (r.0, r.1, inl r.2))
      (λ k. ⊎_elim
      (λ j. let r = any_found (size p) (λ i. later_over first (response p e i)) j in (r.0, r.1, inr (inl r.2)))
      (λ j. let r = some_found (size p) in_again (phase_one p e) below (sym again_is ∙ j) in (r.0, r.1, inr (inr r.2)))
      (or_either later_part again_part k))
      (or_either first_part (later_part || again_part) h)

  pub finds_event : (x : ℕ) → x < size p → Finds x → event_over p e s ≡ true
  unfolding event_over
  finds_event x b (inl h) =
      or_first first_part (later_part || again_part) (first_is ∙ everyone in_first (λ i l k. late_first (at first) i (response p e i) l k) x b h)
  finds_event x b (inr (inl h)) =
      or_second first_part (later_part || again_part) (or_first later_part again_part (any_at (size p) (λ i. later_over first (response p e i)) x b h))
  finds_event x b (inr (inr h)) =
      or_second first_part (later_part || again_part) (or_second later_part again_part
      (again_is ∙ everyone in_again (λ i l k. late_again (at last) (response p e i) l k) x b h))
