-- A circle of k members through i is a walk of k steps from i back to i, so no circle is shorter than the steps back;
-- and who is reached from itself is so by a walk on which nobody stands twice, of at most n steps.
use Rattle.lib_base.proofs.Prelude.{ℕ, ◌≤◌, ◌<◌, ◌+◌, ◌-◌, suc, zero, ◌≡◌, refl, ◌∙◌, sym, ap, subst, true, Bool}
use Rattle.lib_base.proofs.Prelude.{true≢false, ◌&&◌, and-eq-true_iff, by_cases, List, [], ◌∷◌, length, eqb, leb, dec_lt}
use Rattle.lib_base.proofs.Prelude.{eqb-true, eq-eqb, lt-leb, le-leb, arith}
use Rattle.lib_base.specs.Basics.{All}
use Rattle.lib_base.proofs.Tools.{by_elim, split}
use Rattle.spec_language.specs.Dependence.{Reach, one}
use Rattle.check_graph.specs.Matrix.{cell, cell_below, closed}
use Rattle.check_graph.proofs.Any.{any_some, any_member, any_same}
use Rattle.check_graph.proofs.Closure.{below_says, below_is, reach_then, closed_decides}
use Rattle.check_distance.specs.Circle.{Chain, Circle}
use Rattle.check_distance.specs.Layers.{layer, least_from, steps_back, Walked}
use Rattle.check_distance.proofs.Shorter.{straight, reach_chain, chain_below, distinct_few}

-- ---- the least

pub least_from_law : (f : ℕ → Bool) (k a : ℕ) → a ≤ least_from f k a
unfolding least_from
least_from_law f zero a = omega arith
least_from_law f (suc k) a = by_elim (λ x. a ≤ x) (f a) (λ e. omega arith) (λ e. omega (arith, least_from_law f k (suc a)))

pub least_le : (f : ℕ → Bool) (k a b : ℕ) → a ≤ b → f b ≡ true → least_from f k a ≤ b
unfolding least_from
least_le f zero a b h e = h
least_le f (suc k) a b h e =
    by_elim (λ x. x ≤ b) (f a) (λ t. h)
    (λ t. least_le f k (suc a) b (let d : a ≡ b → ⊥ = λ q. true≢false (sym (subst_true f a b q e) ∙ t) in omega arith) e)
  where
    subst_true : (f : ℕ → Bool) (a b : ℕ) → a ≡ b → f b ≡ true → f a ≡ true
    subst_true f a b q e = rw q e

pub least_holds : (f : ℕ → Bool) (k a : ℕ) → least_from f k a < a + k → f (least_from f k a) ≡ true
unfolding least_from
least_holds f zero a = λ h. absurd (omega arith)
least_holds f (suc k) a =
    by_elim (λ x. x < a + suc k → f x ≡ true) (f a) (λ t h. t) (λ t h. least_holds f k (suc a) (omega arith))

-- ---- walks

module _ (m : List ℕ) (n : ℕ) where
  abbrev dep : ℕ → ℕ → Bool
  dep = λ a b. cell m a b

  pub chain_layer : (j : ℕ) (l : List ℕ) (i : ℕ) → Chain (cell_below n m) j l i → layer dep n (suc (length l)) i j ≡ true
  unfolding layer
  chain_layer j [] i c =
      let w = below_says n m j i c in
      any_some n (λ h. dep j h && eqb i h) i w.1 (rw (w.2, eq-eqb i i refl))
  chain_layer j (b ∷ l) i c =
      let w = below_says n m j b c.0 in
      any_some n (λ h. dep j h && layer dep n (suc (length l)) i h) b w.1 (rw (w.2, chain_layer b l i c.1))

  -- no circle through its first member is shorter
  pub circle_back : (a : ℕ) (l : List ℕ) → Circle (cell_below n m) (a ∷ l) → (a < n) × (steps_back dep n a ≤ length (a ∷ l))
  unfolding steps_back
  circle_back a l c = (
    (chain_below (cell_below n m) n (λ x y h. (below_says n m x y h).0) a l a c).0,
    least_le (λ k. layer dep n k a a) n 1 (suc (length l)) (omega arith) (chain_layer a l a c),
  )

  -- who reaches itself does so in at most n steps
  reach_back : (a : ℕ) → Reach (cell_below n m) a a → (a < n) × (steps_back dep n a ≤ n)
  reach_back a r =
      let c = reach_chain (cell_below n m) r in
      let w = straight (cell_below n m) a c.0 a c.1 in
      let few = distinct_few n (a ∷ w.0) w.2 (chain_below (cell_below n m) n (λ x y e. (below_says n m x y e).0) a w.0 a w.1) in
      let v = circle_back a w.0 w.1 in
      (v.0, omega (arith, few, v.1))

  -- and a walk reaches
  layer_reach : (k i j : ℕ) → j < n → layer dep n (suc k) i j ≡ true → Reach (cell_below n m) j i
  unfolding layer
  layer_reach zero i j b e =
      let w = any_member n (λ h. dep j h && eqb i h) e in
      let q = (and-eq-true_iff (dep j w.0) (eqb i w.0)).0 w.2 in
      subst (λ (x : ℕ). Reach (cell_below n m) j x) (sym (eqb-true i w.0 q.1)) (one (below_is n m j w.0 b w.1 q.0))
  layer_reach (suc k) i j b e =
      let w = any_member n (λ h. dep j h && layer dep n (suc k) i h) e in
      let q = (and-eq-true_iff (dep j w.0) (layer dep n (suc k) i w.0)).0 w.2 in
      reach_then (one (below_is n m j w.0 b w.1 q.0)) (layer_reach k i w.0 w.1 q.1)

  back_reach : (a : ℕ) → a < n → steps_back dep n a ≤ n → Reach (cell_below n m) a a
  unfolding steps_back
  back_reach a b h =
      let home : ℕ → Bool = λ k. layer dep n k a a in
      let z : least_from home n 1 ≡ suc (least_from home n 1 - 1) = omega (arith, least_from_law home n 1) in
      layer_reach (least_from home n 1 - 1) a a b (rw z at (least_holds home n 1 (omega arith)))

  -- the steps back tell whether a is reached from itself
  pub back_decides : length m ≡ 4096 → n ≤ 64 → (a : ℕ) → a < n → leb (steps_back dep n a) n ≡ cell (closed m n) a a
  back_decides l few a b =
      let d = closed_decides m n l few a a b b in
      split (cell (closed m n) a a)
      (λ t. le-leb (steps_back dep n a) n (reach_back a (d.0 t)).1 ∙ sym t)
      (λ t. lt-leb (steps_back dep n a) n (by_cases (dec_lt n (steps_back dep n a)) (λ s. s)
      (λ s. absurd (true≢false (sym (d.1 (back_reach a b (omega arith))) ∙ t)))) ∙ sym t)

-- ---- dependence that is alike among the first n

chain_same : (n : ℕ) (dep dep' : ℕ → ℕ → Bool) → ((a b : ℕ) → a < n → b < n → dep a b ≡ dep' a b) → (a : ℕ) (l : List ℕ) (z : ℕ) → All (λ j. j < n) (a ∷ l) → z < n
    → Chain dep a l z → Chain dep' a l z
chain_same n dep dep' h a [] z s b c = sym (h a z s.0 b) ∙ c
chain_same n dep dep' h a (x ∷ l) z s b c = (sym (h a x s.0 s.1.0) ∙ c.0, chain_same n dep dep' h x l z s.1 b c.1)

pub circle_same : (n : ℕ) (dep dep' : ℕ → ℕ → Bool) → ((a b : ℕ) → a < n → b < n → dep a b ≡ dep' a b) → (l : List ℕ) → All (λ j. j < n) l → Circle dep l → Circle dep' l
circle_same n dep dep' h [] s c = c
circle_same n dep dep' h (a ∷ l) s c = chain_same n dep dep' h a l a s s.0 c

pub layer_same : (n : ℕ) (dep dep' : ℕ → ℕ → Bool) → ((a b : ℕ) → a < n → b < n → dep a b ≡ dep' a b) → (k i j : ℕ) → j < n → layer dep n k i j ≡ layer dep' n k i j
unfolding layer
layer_same n dep dep' h zero i j b = refl
layer_same n dep dep' h (suc k) i j b =
    any_same n (λ x. dep j x && layer dep n k i x) (λ x. dep' j x && layer dep' n k i x)
    (λ x c. ap (λ y. y && layer dep n k i x) (h j x b c) ∙ ap (λ y. dep' j x && y) (layer_same n dep dep' h k i x c))

least_same : (f g : ℕ → Bool) → ((x : ℕ) → f x ≡ g x) → (k a : ℕ) → least_from f k a ≡ least_from g k a
unfolding least_from
least_same f g h zero a = refl
least_same f g h (suc k) a =
    split (g a) (λ t. rw (h a ∙ t, t, least_from)) (λ t. rw (h a ∙ t, t, least_from) (least_same f g h k (suc a)))

pub back_same : (n : ℕ) (dep dep' : ℕ → ℕ → Bool) → ((a b : ℕ) → a < n → b < n → dep a b ≡ dep' a b) → (i : ℕ) → i < n → steps_back dep n i ≡ steps_back dep' n i
unfolding steps_back
back_same n dep dep' h i b = least_same (λ k. layer dep n k i i) (λ k. layer dep' n k i i) (λ k. layer_same n dep dep' h k i i b) n 1

pub walked_same : (m w : List ℕ) {n r : ℕ} {list list' : List ℕ} → ((a b : ℕ) → a < n → b < n → cell m a b ≡ cell w a b) → Walked m n r list list' → Walked w n r list list'
walked_same m w {n} h k = record {
  members = k.members;
  count = k.count;
  below = k.below;
  circle = circle_same n (λ a b. cell m a b) (λ a b. cell w a b) h k.members k.below k.circle;
  bytes = k.bytes;
}
