-- The order of phase one: each member once, after its needs, and without a cycle everybody. What is left over with
-- nobody ready is a set of which every member needs a member. From it, induction over needs: what follows from its
-- needs holds of everyone.
use Rattle.lib_base.proofs.Prelude.{ℕ, ◌≤◌, ◌<◌, ◌+◌, suc, zero, ◌≡◌, refl, ◌∙◌, sym, ap, subst, true, false, Bool}
use Rattle.lib_base.proofs.Prelude.{false≢true, true≢false, ◌&&◌, not, and-eq-true_iff, ◌≢◌, by_cases, ◌⊎◌, ⊎_elim, inr}
use Rattle.lib_base.proofs.Prelude.{inl, Option, some, none, List, [], ◌∷◌, length, get_or, length-set, set}
use Rattle.lib_base.proofs.Prelude.{get_or-set_other, get_or-set_same, dec_lt, not-true, not-false, arith}
use Rattle.lib_base.specs.Basics.{All}
use Rattle.lib_base.proofs.Tools.{by_elim, split, all_imp, by_option}
use Rattle.spec_language.specs.Syntax.{Program}
use Rattle.spec_language.specs.Dependence.{Response, follows, takes, defers, keeps, size, no_event, response, needs, depends_on, Reach}
use Rattle.spec_language.specs.Order.{met, find, order, early, met_at_once, phase_one}
use Rattle.spec_language.specs.Accepted.{Known}
use Rattle.spec_language.specs.Valid.{Valid}
use Rattle.spec_language.proofs.Laws.{length_up_to, get_d_up_to, depends_within}
use Rattle.spec_semantics.proofs.Graph.{Marked, Unmarked, free, free_set, free_le, marked_set, cycle}

-- ---- marks and members

-- all of a list marked, one after the other
abbrev pub mark_all : List ℕ → List Bool → List Bool
mark_all [] m = m
mark_all (i ∷ is) m = mark_all is (set m i true)

pub unmarked_set : (m : List Bool) (j x : ℕ) → j < length m → Unmarked (set m j true) x → (j ≢ x) × Unmarked m x
unmarked_set m j x h u =
    let other : j ≢ x = λ e. true≢false (sym (get_or-set_same m j true false h) ∙ ap (λ y. get_or (set m j true) y false) e ∙ u) in
    (other, sym (get_or-set_other m j x true false (λ e. other (sym e))) ∙ u)

-- below n, not marked before, its needs marked, and then it is: each member in turn
abbrev pub Ordered : ℕ → (ℕ → ℕ → Bool) → List Bool → List ℕ → Type 0
Ordered n dep done [] = Unit {0}
Ordered n dep done (i ∷ is) = (i < n) × Unmarked done i × ((j : ℕ) → dep i j ≡ true → Marked done j) × Ordered n dep (set done i true) is

module _ (n : ℕ) (dep : ℕ → ℕ → Bool) where
  -- ---- what `met` and `find` say

  abbrev Lacks : List Bool → ℕ → Type 0
  Lacks m x = (j : ℕ) × (dep x j ≡ true) × Unmarked m j

  abbrev Met : ℕ → ℕ → List Bool → Bool → Type 0
  Met i k m b = ((b ≡ true) × ((j : ℕ) → j < k → dep i j ≡ true → Marked m j)) ⊎ ((b ≡ false) × Lacks m i)

  met_says : (i k : ℕ) (m : List Bool) → Met i k m (met n dep i k m)
  unfolding met
  met_says i zero m = inl (refl, λ j p d. absurd (omega arith))
  met_says i (suc k) m =
      by_elim (Met i (suc k) m) (dep i k && not (get_or m k false))
      (λ e. inr (refl, (k, ((and-eq-true_iff (dep i k) _).0 e).0, not-true _ ((and-eq-true_iff (dep i k) _).0 e).1)))
      (λ e. ⊎_elim (λ p. inl (p.0, λ j q d. by_cases (dec_lt j k) (λ r. p.1 j r d) (λ r. let w : j ≡ k = omega arith in split (get_or m j false) (λ x. x) (λ x. cc))))
      (λ q. inr q) (met_says i k m))

  abbrev Finds : ℕ → ℕ → List Bool → Option ℕ → Type 0
  Finds k i m none = (x : ℕ) → i ≤ x → x < i + k → Unmarked m x → Lacks m x
  Finds k i m (some x) = (x < i + k) × Unmarked m x × ((j : ℕ) → j < n → dep x j ≡ true → Marked m j)

  finds_on : (k i : ℕ) (m : List Bool) (o : Option ℕ) → (Unmarked m i → Lacks m i) → Finds k (suc i) m o → Finds (suc k) i m o
  finds_on k i m none l h = λ x p q u. by_cases (dec_lt i x) (λ r. h x r (omega arith) u) (λ r. let e : i ≡ x = omega arith in subst (Lacks m) e (l (rw e u)))
  finds_on k i m (some x) l h = (omega arith, h.1, h.2)

  find_says : (k i : ℕ) (m : List Bool) → Finds k i m (find n dep k i m)
  unfolding find
  find_says zero i m = λ x p q. absurd (omega arith)
  find_says (suc k) i m =
      by_elim (Finds (suc k) i m) (not (get_or m i false) && met n dep i n m)
      (λ e. (omega arith, not-true _ ((and-eq-true_iff _ _).0 e).0, ⊎_elim (λ p. p.1) (λ q. absurd (false≢true (sym q.0 ∙ ((and-eq-true_iff (not (get_or m i false)) _).0 e).1))) (met_says i n m)))
      (λ e. finds_on k i m (find n dep k (suc i) m) (λ u. ⊎_elim (λ p. absurd (true≢false (let z : true ≡ false = cc in z))) (λ q. q.1) (met_says i n m))
      (find_says k (suc i) m))

  -- ---- members of an ordered list

  pub ordered_unmarked : (is : List ℕ) (done : List Bool) → length done ≡ n → Ordered n dep done is → All (λ i. (i < n) × Unmarked done i) is
  ordered_unmarked [] done l o = tt
  ordered_unmarked (i ∷ is) done l o = (
    (o.0, o.1),
    all_imp _ _ (λ x h. (h.0, (unmarked_set done i x (omega arith) h.1).1)) is (ordered_unmarked is (set done i true) (simp length-set l) o.3),
  )

  module _ (within : (a b : ℕ) → dep a b ≡ true → (a < n) × (b < n)) where
    -- ---- the order is ordered, and complete

    pub order_ordered : (k : ℕ) (m : List Bool) → Ordered n dep m (order n dep k m)
    unfolding order
    order_ordered zero m = tt
    order_ordered (suc k) m =
        by_option (Ordered n dep m) (find n dep n 0 m) (λ e. tt)
        (λ i e.
        let f : Finds n 0 m (some i) = rw e at (find_says n 0 m) in
        (omega arith, f.1, λ j d. f.2 j (within i j d).1 d, order_ordered k (set m i true)))

    pub order_complete : ((x : ℕ) → Reach dep x x → ⊥) → (k : ℕ) (m : List Bool) → length m ≡ n → free m ≤ k
        → (x : ℕ) → x < n → Marked (mark_all (order n dep k m) m) x
    unfolding order
    order_complete acyclic zero m s h = λ x b. split (get_or m x false) (λ t. t) (λ f. absurd (omega (arith, free_set m x (omega arith) f)))
    order_complete acyclic (suc k) m s h =
        by_option (λ o. (x : ℕ) → x < n → Marked (mark_all o m) x) (find n dep n 0 m)
        (λ e x b. split (get_or m x false) (λ t. t) (λ f.
        let lacks : Finds n 0 m none = rw e at (find_says n 0 m) in
        let c = cycle n dep within (λ r. (r < n) × Unmarked m r)
        (λ r p. let j = lacks r (omega arith) (omega arith) p.1 in (j.0, ((within r j.0 j.1).1, j.2), j.1)) x (b, f) in
        absurd (acyclic c.0 c.2)))
        (λ i e.
        let f : Finds n 0 m (some i) = rw e at (find_says n 0 m) in
        order_complete acyclic k (set m i true) (simp length-set s) (omega (arith, free_set m i (omega arith) f.1)))

    -- ---- along an ordered list: what follows from its needs holds of all that is marked in the end
    pub along : (P : ℕ → Type 0) → ((i : ℕ) → i < n → ((j : ℕ) → dep i j ≡ true → P j) → P i)
        → (is : List ℕ) (done : List Bool) → Ordered n dep done is → ((x : ℕ) → x < n → Marked done x → P x)
        → (x : ℕ) → x < n → Marked (mark_all is done) x → P x
    along P step [] done o h = h
    along P step (i ∷ is) done o h =
        let mine : P i = step i o.0 (λ j d. h j (within i j d).1 (o.2 j d)) in
        along P step is (set done i true) o.3 (λ x b p. ⊎_elim (λ e. subst P (sym e) mine) (λ q. h x b q) (marked_set done i x p))

-- who is not early needs nobody
pub late_needs : (i j : ℕ) (r : Response) → early r ≡ false → needs i j r ≡ true → ⊥
late_needs i j (follows x) h e = true≢false h
late_needs i j (takes x) h e = true≢false h
late_needs i j (defers x) h e = false≢true e
late_needs i j keeps h e = false≢true e

-- ---- phase one of a program

module _ (p : Program) (e : ℕ) where
  pub length_met : length (met_at_once p e) ≡ size p
  unfolding met_at_once
  length_met = length_up_to (size p) _

  met_is : (i : ℕ) → i < size p → get_or (met_at_once p e) i false ≡ not (early (response p e i))
  unfolding met_at_once
  met_is i h = get_d_up_to (size p) _ i false h

  pub met_late : (i : ℕ) → i < size p → Marked (met_at_once p e) i → early (response p e i) ≡ false
  met_late i h m = not-true _ (sym (met_is i h) ∙ m)

  unmet_early : (i : ℕ) → i < size p → Unmarked (met_at_once p e) i → early (response p e i) ≡ true
  unmet_early i h m = not-false _ (sym (met_is i h) ∙ m)

  module _ (known : Known p) where
    pub phase_one_ordered : Ordered (size p) (depends_on p e) (met_at_once p e) (phase_one p e)
    unfolding phase_one
    phase_one_ordered = order_ordered (size p) (depends_on p e) (depends_within p known e) (size p) (met_at_once p e)

    -- it holds only those that have their turn in phase one
    pub phase_one_early : All (λ i. (i < size p) × (early (response p e i) ≡ true)) (phase_one p e)
    phase_one_early =
        all_imp _ _ (λ i h. (h.0, unmet_early i h.0 h.1)) (phase_one p e)
        (ordered_unmarked (size p) (depends_on p e) (phase_one p e) (met_at_once p e) length_met phase_one_ordered)

module _ (p : Program) (v : Valid p) (e : ℕ) (declared : e ≤ no_event p) where
  -- in the end everyone is marked
  pub phase_one_marks : (i : ℕ) → i < size p → Marked (mark_all (phase_one p e) (met_at_once p e)) i
  unfolding phase_one
  phase_one_marks =
      order_complete (size p) (depends_on p e) (depends_within p v.known e) (v.acyclic e declared) (size p) (met_at_once p e) (length_met p e)
      (omega (arith, free_le (met_at_once p e), length_met p e))

  -- induction over needs
  pub by_needs : (P : ℕ → Type 0) → ((i : ℕ) → i < size p → ((j : ℕ) → depends_on p e i j ≡ true → P j) → P i) → (i : ℕ) → i < size p → P i
  by_needs P step i h =
      along (size p) (depends_on p e) (depends_within p v.known e) P step (phase_one p e) (met_at_once p e) (phase_one_ordered p e v.known)
      (λ x b m. step x b (λ j d. absurd (late_needs x j (response p e x) (met_late p e x b m) d))) i h (phase_one_marks i h)
