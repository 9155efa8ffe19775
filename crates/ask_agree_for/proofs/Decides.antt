-- The answer is 0 exactly if no two declared events of unequal rank meet in the set, and what it names is true: the
-- tests decide the meeting, and the first answer that is not 0 is the least.
use Rattle.lib_base.proofs.Prelude.{ℕ, ◌≤◌, ◌<◌, ◌+◌, ◌-◌, ◌≡◌, refl, ◌∙◌, sym, ap, true, false, Bool, ◌||◌, true≢false}
use Rattle.lib_base.proofs.Prelude.{◌&&◌, ◌≢◌, by_cases, get_or, eqb, dec_lt, ne_eqb, eqb-false, arith}
use Rattle.lib_base.specs.Basics.{All}
use Rattle.lib_base.proofs.Tools.{by_test, split, chosen, not_chosen, passed}
use Rattle.spec_language.specs.Syntax.{Program}
use Rattle.spec_language.specs.Dependence.{size, events, writes}
use Rattle.spec_language.specs.Fits.{BehaviourFits}
use Rattle.spec_language.specs.Accepted.{Known}
use Rattle.check_reads.specs.First.{first_from}
use Rattle.check_reads.proofs.FirstLaws.{Found, first_found, first_all, first_none}
use Rattle.ask_agree.specs.Answer.{packed_difference}
use Rattle.ask_agree.specs.Claims.{Unequal}
use Rattle.ask_agree.proofs.ConflictLaws.{packed_some}
use Rattle.ask_commute.specs.Meets.{SharedIn, two_write, one_writes, other_writes, MeetAt, NoneMeet}
use Rattle.ask_commute.proofs.Cones.{Settled}
use Rattle.ask_meets.specs.Meeting.{strict_in, meeting, meets}
use Rattle.ask_meets.proofs.MeetDecides.{written_in, meets_says, meets_is, clear_by}
use Rattle.ask_agree_for.specs.Encounter.{encounter_at, encounter_with, encounter_from, encounter_by}
use Rattle.ask_agree_for.specs.AgreeFor.{encounter_in}
use Rattle.ask_agree_for.specs.Claims.{EncounterNamed}

-- ---- either way round

or_turned : (a b : Bool) → a || b ≡ b || a
or_turned true true = refl
or_turned true false = refl
or_turned false true = refl
or_turned false false = refl

meets_turned : (p : Program) (D : ℕ → Bool) (e f i : ℕ) → meets p D e f i ≡ meets p D f e i
unfolding meets meeting
meets_turned p D e f i = ap (λ (x : Bool). D i && x) (or_turned (writes p e i && strict_in p D f i) (writes p f i && strict_in p D e i))

shared_within : (p : Program) (T : ℕ → Type 0) (e f i : ℕ) → SharedIn p T e f i → i < size p
shared_within p T e f i (two_write a b) = written_in p e i a
shared_within p T e f i (one_writes a r) = written_in p e i a
shared_within p T e f i (other_writes b r) = written_in p f i b

module _ (p : Program) (each : All (BehaviourFits (events p)) p.behaviours) (known : Known p) (few : size p ≤ 64)
    (D : ℕ → Bool) (T : ℕ → Type 0) (says : (i : ℕ) → i < size p → D i ≡ true → T i) (is : (i : ℕ) → i < size p → T i → D i ≡ true) where
  abbrev rank_of : ℕ → ℕ
  rank_of e = get_or p.priorities e 0

  abbrev with_pair : ℕ → ℕ → ℕ
  with_pair e f = encounter_with rank_of (size p) (meets p D) e f

  abbrev place : ℕ → ℕ → ℕ → ℕ
  place e f i = encounter_at rank_of (size p) (meets p D) e f i

  -- ---- one pair

  pair_zero : (e f : ℕ) → Unequal p e f → with_pair e f ≡ 0 → (i : ℕ) → i < size p → meets p D e f i ≡ false
  unfolding encounter_with encounter_at
  pair_zero e f u z i b =
      let a : first_from (size p) 0 (place e f) ≡ 0 = rw (ne_eqb (rank_of e) (rank_of f) u) at z in
      not_chosen (meets p D e f i) (packed_difference e f i) (packed_some e f i) (first_all (size p) 0 (place e f) a i (omega arith) (omega arith))

  pair_none : (e f : ℕ) → (Unequal p e f → (i : ℕ) → i < size p → meets p D e f i ≡ false) → with_pair e f ≡ 0
  unfolding encounter_with encounter_at
  pair_none e f h =
      by_test (λ x. x ≡ 0) (eqb (rank_of e) (rank_of f)) (λ t. refl)
      (λ t. first_none (size p) 0 (place e f) (λ i a b. rw (h (eqb-false (rank_of e) (rank_of f) t) i (omega arith))))

  pair_found : (e f v : ℕ) → with_pair e f ≡ v → v ≢ 0 → Unequal p e f × Found (size p) 0 (place e f) v
  unfolding encounter_with
  pair_found e f v q h =
      let g = passed (eqb (rank_of e) (rank_of f)) (first_from (size p) 0 (place e f)) (λ z. h (sym q ∙ z)) in
      (eqb-false (rank_of e) (rank_of f) g.0, first_found (size p) 0 (place e f) v (sym g.1 ∙ q) h)

  -- ---- all pairs

  abbrev from : ℕ → ℕ
  from e = encounter_from rank_of (size p) (meets p D) (events p) e

  from_zero : encounter_in p D ≡ 0 → (e : ℕ) → e < events p → from e ≡ 0
  unfolding encounter_in encounter_by
  from_zero z e h = first_all (events p - 0) 0 from z e (omega arith) (omega arith)

  of_zero : (e : ℕ) → from e ≡ 0 → (f : ℕ) → e < f → f < events p → with_pair e f ≡ 0
  unfolding encounter_from
  of_zero e z f h k = first_all (events p - (e + 1)) (e + 1) (with_pair e) z f (omega arith) (omega arith)

  pub zero_meets : encounter_in p D ≡ 0 → (e f : ℕ) → e < events p → f < events p → Unequal p e f → (i : ℕ) → i < size p → meets p D e f i ≡ false
  zero_meets z e f a b u i c =
      by_cases (dec_lt e f)
      (λ s. pair_zero e f u (of_zero e (from_zero z e a) f s b) i c)
      (λ s. by_cases (dec_lt f e)
      (λ t. meets_turned p D e f i ∙ pair_zero f e (λ q. u (sym q)) (of_zero f (from_zero z f b) e t a) i c)
      (λ t. let q : e ≡ f = omega arith in absurd (u (ap rank_of q))))

  pub zero_settles : encounter_in p D ≡ 0 → Settled p T
  zero_settles z e f a b u = clear_by p each known few D T says is e f (zero_meets z e f a b u)

  pub zero_says : encounter_in p D ≡ 0 → NoneMeet p T
  zero_says z e f a b u i m =
      true≢false (sym (meets_is p each known few D T says is e f i m) ∙ zero_meets z e f a b u i (shared_within p T e f i m.shared))

  pub zero_is : NoneMeet p T → encounter_in p D ≡ 0
  unfolding encounter_in encounter_by encounter_from
  zero_is h =
      first_none (events p - 0) 0 from
      (λ e a b. first_none (events p - (e + 1)) (e + 1) (with_pair e)
      (λ f c d. pair_none e f (λ u i k. split (meets p D e f i)
      (λ t. absurd (h e f (omega arith) (omega arith) u i (meets_says p each known few D T says is e f i k t))) (λ t. t))))

  -- ---- what is named

  no_meet : (e f : ℕ) → Unequal p e f → with_pair e f ≡ 0 → (i : ℕ) → MeetAt p T e f i → ⊥
  no_meet e f u z i m = true≢false (sym (meets_is p each known few D T says is e f i m) ∙ pair_zero e f u z i (shared_within p T e f i m.shared))

  pub named_is_true : (v : ℕ) → encounter_in p D ≡ v → v ≢ 0 → EncounterNamed p T v
  unfolding encounter_in encounter_by encounter_from encounter_at
  named_is_true v q h =
      let a = first_found (events p - 0) 0 from v q h in
      let e = a.place in
      let b = first_found (events p - (e + 1)) (e + 1) (with_pair e) v a.answer h in
      let f = b.place in
      let c = pair_found e f v b.answer h in
      let i = c.1.place in
      let g = chosen (meets p D e f i) (packed_difference e f i) (λ z. h (sym c.1.answer ∙ z)) in
      let k : i < size p = omega (arith, c.1.below) in
      record {
        first = e;
        second = f;
        behaviour = i;
        is = sym c.1.answer ∙ g.1;
        ordered = omega (arith, b.from);
        declared = omega (arith, a.below, b.from, b.below);
        in_sheet = k;
        unequal = c.0;
        meet = meets_says p each known few D T says is e f i k g.0;
        least_first = λ e' f' i' l m u t. by_cases (dec_lt e' e)
            (λ w. absurd (no_meet e' f' u (of_zero e' (a.before e' (omega arith) w) f' l m) i' t)) (λ w. omega arith);
        least_second = λ f' i' l m u t. by_cases (dec_lt f' f)
            (λ w. absurd (no_meet e f' u (b.before f' (omega arith) w) i' t)) (λ w. omega arith);
        least_behaviour = λ i' t. by_cases (dec_lt i' i)
            (λ w. absurd (true≢false (sym (meets_is p each known few D T says is e f i' t) ∙ not_chosen (meets p D e f i') (packed_difference e f i') (packed_some e f i') (c.1.before i' (omega arith) w))))
            (λ w. omega arith);
      }
