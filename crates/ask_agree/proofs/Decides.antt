-- The answer is 0 exactly if all declared events of unequal rank are independent, and what it names is true: each test
-- decides what it is named for, and the first answer that is not 0 is the least.
use Rattle.lib_base.proofs.Prelude.{ℕ, ◌≤◌, ◌<◌, ◌+◌, ◌-◌, ◌≡◌, refl, ◌∙◌, sym, ap, true, false, Bool, ◌||◌, false≢true}
use Rattle.lib_base.proofs.Prelude.{true≢false, ◌&&◌, and-eq-true_iff, or-true, ◌≢◌, by_cases, ⊎_elim, [], get_or}
use Rattle.lib_base.proofs.Prelude.{List·getD-eq-default, eqb, dec_lt, ne_eqb, eqb-false, arith}
use Rattle.lib_base.specs.Basics.{pick, All}
use Rattle.lib_base.proofs.Tools.{by_test, split, or_either, chosen, not_chosen, passed}
use Rattle.spec_language.specs.Syntax.{Behaviour, passive, active, Program}
use Rattle.spec_language.specs.Dependence.{size, events, handled, respond, behaviour_at, is_active, written, writes, Reads, Independent}
use Rattle.spec_language.specs.Fits.{BehaviourFits}
use Rattle.spec_language.specs.Accepted.{Known}
use Rattle.check_reads.specs.First.{first_from}
use Rattle.check_reads.specs.Named.{named_by}
use Rattle.check_reads.proofs.FirstLaws.{Found, first_found, first_all, first_none}
use Rattle.check_reads.proofs.Decides.{named_says, named_is}
use Rattle.ask_agree.specs.Answer.{packed_difference}
use Rattle.ask_agree.specs.Agree.{clashes, clash_of, clash_from, clash_in}
use Rattle.ask_agree.specs.Claims.{Unequal, AllIndependent, SharedBehaviour, both_write, first_writes, second_writes, DifferenceNamed}
use Rattle.ask_agree.proofs.ConflictLaws.{packed_some}

-- ---- what is written is an active of the sheet

pub active_written : (e : ℕ) (b : Behaviour) → written (respond e b) ≡ true → is_active b ≡ true
active_written e (passive x) h = absurd (false≢true h)
active_written e (active s hs) h = refl

written_within : (p : Program) (e i : ℕ) → writes p e i ≡ true → i < size p
unfolding handled
written_within p e i h =
    by_cases (dec_lt i (size p)) (λ s. s)
    (λ s. absurd (false≢true (sym (ap (λ (y : Behaviour). written (respond e y)) (List·getD-eq-default p.behaviours (active 0 []) (omega arith))) ∙ h)))

module _ (p : Program) (each : All (BehaviourFits (events p)) p.behaviours) (known : Known p) (few : size p ≤ 64) where
  reads_is : (e f i : ℕ) → writes p e i ≡ true → named_by p f i ≡ true → Reads p f i
  reads_is e f i w h = (named_says p each known few f i (written_within p e i w) h, active_written e (behaviour_at p i) w)

  pub shared_says : (e f i : ℕ) → clashes p e f i ≡ true → SharedBehaviour p e f i
  unfolding clashes
  shared_says e f i h =
      ⊎_elim
      (λ t. let g = (and-eq-true_iff (writes p e i) (writes p f i || named_by p f i)).0 t in
      ⊎_elim (λ u. both_write g.0 u) (λ u. first_writes g.0 (reads_is e f i g.0 u)) (or_either (writes p f i) (named_by p f i) g.1))
      (λ t. let g = (and-eq-true_iff (writes p f i) (named_by p e i)).0 t in second_writes g.0 (reads_is f e i g.0 g.1))
      (or_either (writes p e i && (writes p f i || named_by p f i)) (writes p f i && named_by p e i) h)

  pub shared_is : (e f i : ℕ) → SharedBehaviour p e f i → clashes p e f i ≡ true
  unfolding clashes
  shared_is e f i (both_write a b) = rw (a, b)
  shared_is e f i (first_writes a r) = rw (a, named_is p each known few f r.0, or-true (writes p f i))
  shared_is e f i (second_writes b r) =
      rw (b, named_is p each known few e r.0) (or-true (writes p e i && true))

  pub shared_within : (e f i : ℕ) → SharedBehaviour p e f i → i < size p
  shared_within e f i (both_write a b) = written_within p e i a
  shared_within e f i (first_writes a r) = written_within p e i a
  shared_within e f i (second_writes b r) = written_within p f i b

  -- ---- independence is that nothing is shared

  pub none_shared : (e f : ℕ) → Independent p e f → (i : ℕ) → SharedBehaviour p e f i → ⊥
  none_shared e f h i (both_write a b) = true≢false (sym b ∙ (h.0 i a).1)
  none_shared e f h i (first_writes a r) = (h.0 i a).0 r
  none_shared e f h i (second_writes b r) = (h.1 i b).0 r

  not_written : (b : Bool) → (b ≡ true → ⊥) → b ≡ false
  not_written true h = absurd (h refl)
  not_written false h = refl

  pub apart : (e f : ℕ) → ((i : ℕ) → SharedBehaviour p e f i → ⊥) → Independent p e f
  apart e f h = (
    λ i w. ((λ r. h i (first_writes w r)), not_written (writes p f i) (λ t. h i (both_write w t))),
    λ i w. ((λ r. h i (second_writes w r)), not_written (writes p e i) (λ t. h i (both_write t w))),
  )

  -- ---- one pair

  module _ (e f : ℕ) where
    abbrev at : ℕ → ℕ
    at i = pick (clashes p e f i) (packed_difference e f i) 0

    pair_zero : Unequal p e f → clash_of p e f ≡ 0 → (i : ℕ) → SharedBehaviour p e f i → ⊥
    unfolding clash_of
    pair_zero u z i s =
        let a : first_from (size p) 0 at ≡ 0 = rw (ne_eqb (get_or p.priorities e 0) (get_or p.priorities f 0) u) at z in
        let b = first_all (size p) 0 at a i (omega arith) (omega (arith, shared_within e f i s)) in
        true≢false (sym (shared_is e f i s) ∙ not_chosen (clashes p e f i) (packed_difference e f i) (packed_some e f i) b)

    pair_none : (Unequal p e f → (i : ℕ) → SharedBehaviour p e f i → ⊥) → clash_of p e f ≡ 0
    unfolding clash_of
    pair_none h =
        by_test (λ x. x ≡ 0) (eqb (get_or p.priorities e 0) (get_or p.priorities f 0)) (λ t. refl)
        (λ t. first_none (size p) 0 at (λ i a b. split (clashes p e f i) (λ c. absurd (h (eqb-false (get_or p.priorities e 0) (get_or p.priorities f 0) t) i (shared_says e f i c))) (λ c. rw c)))

    -- a pair that clashes
    pair_found : (v : ℕ) → clash_of p e f ≡ v → v ≢ 0 → Unequal p e f × Found (size p) 0 at v
    unfolding clash_of
    pair_found v q h =
        let g = passed (eqb (get_or p.priorities e 0) (get_or p.priorities f 0)) (first_from (size p) 0 at) (λ z. h (sym q ∙ z)) in
        (eqb-false (get_or p.priorities e 0) (get_or p.priorities f 0) g.0, first_found (size p) 0 at v (sym g.1 ∙ q) h)

  -- ---- all pairs

  from_zero : clash_in p ≡ 0 → (e : ℕ) → e < events p → clash_from p e ≡ 0
  unfolding clash_in
  from_zero z e h = first_all (events p) 0 (clash_from p) z e (omega arith) (omega arith)

  of_zero : (e : ℕ) → clash_from p e ≡ 0 → (f : ℕ) → e < f → f < events p → clash_of p e f ≡ 0
  unfolding clash_from
  of_zero e z f h k = first_all (events p - (e + 1)) (e + 1) (clash_of p e) z f (omega arith) (omega arith)

  pub zero_says : clash_in p ≡ 0 → AllIndependent p
  zero_says z e f a b u =
      by_cases (dec_lt e f)
      (λ s. apart e f (pair_zero e f u (of_zero e (from_zero z e a) f s b)))
      (λ s. by_cases (dec_lt f e)
      (λ t. let i = apart f e (pair_zero f e (λ q. u (sym q)) (of_zero f (from_zero z f b) e t a)) in (i.1, i.0))
      (λ t. let q : e ≡ f = omega arith in absurd (u (ap (λ (x : ℕ). get_or p.priorities x 0) q))))

  pub zero_is : AllIndependent p → clash_in p ≡ 0
  unfolding clash_in clash_from
  zero_is h =
      first_none (events p) 0 (clash_from p)
      (λ e a b. first_none (events p - (e + 1)) (e + 1) (clash_of p e)
      (λ f c d. pair_none e f (λ u. none_shared e f (h e f (omega arith) (omega arith) u))))

  -- ---- what is named

  pub named_is_true : (v : ℕ) → clash_in p ≡ v → v ≢ 0 → DifferenceNamed p v
  unfolding clash_in clash_from
  named_is_true v q h =
      let a = first_found (events p) 0 (clash_from p) v q h in
      let e = a.place in
      let b = first_found (events p - (e + 1)) (e + 1) (clash_of p e) v a.answer h in
      let f = b.place in
      let c = pair_found e f v b.answer h in
      let i = c.1.place in
      let g = chosen (clashes p e f i) (packed_difference e f i) (λ z. h (sym c.1.answer ∙ z)) in
      let s = shared_says e f i g.0 in
      record {
        first = e;
        second = f;
        behaviour = i;
        is = sym c.1.answer ∙ g.1;
        ordered = omega (arith, b.from);
        declared = omega (arith, a.below, b.from, b.below);
        in_sheet = omega (arith, c.1.below);
        unequal = c.0;
        shared = s;
        dependent = λ d. none_shared e f d i s;
        least_first = λ e' f' i' k l u t. by_cases (dec_lt e' e)
            (λ w. absurd (pair_zero e' f' u (of_zero e' (a.before e' (omega arith) w) f' k l) i' t)) (λ w. omega arith);
        least_second = λ f' i' k l u t. by_cases (dec_lt f' f)
            (λ w. absurd (pair_zero e f' u (b.before f' (omega arith) w) i' t)) (λ w. omega arith);
        least_behaviour = λ i' t. by_cases (dec_lt i' i)
            (λ w. absurd (true≢false (sym (shared_is e f i' t) ∙ not_chosen (clashes p e f i') (packed_difference e f i') (packed_some e f i') (c.1.before i' (omega arith) w))))
            (λ w. omega arith);
      }
