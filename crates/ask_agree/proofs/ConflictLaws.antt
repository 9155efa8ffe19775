-- The first conflict on the sets that the code gathers is that of the program: answer by answer.
use Rattle.lib_base.proofs.Prelude.{ℕ, ◌<◌, ◌+◌, ◌-◌, ◌≡◌, ◌∙◌, ap, Bool, ◌≢◌, List, get_or, eqb, sub-zero, ne_eqb}
use Rattle.lib_base.proofs.Prelude.{eq-eqb, arith}
use Rattle.lib_base.specs.Basics.{pick}
use Rattle.lib_bits.specs.Bits.{bit}
use Rattle.spec_language.specs.Syntax.{Program}
use Rattle.spec_language.specs.Dependence.{size, events, writes}
use Rattle.draft_form.specs.Draft.{DraftOf, Drafted}
use Rattle.spec_language.specs.Fits.{Fits}
use Rattle.check_reads.specs.Sets.{writes_on, named_on, WritesIn, NamedIn}
use Rattle.check_reads.specs.Named.{named_by}
use Rattle.check_reads.proofs.FirstLaws.{first_same}
use Rattle.check_reads.proofs.Agrees.{writes_are, named_are}
use Rattle.back_compile.specs.Number.{number_on}
use Rattle.back_compile.specs.Judged.{Passes}
use Rattle.back_compile.proofs.Judging.{passes_number}
use Rattle.ask_agree.specs.Answer.{packed_difference}
use Rattle.ask_agree.specs.Conflict.{clash, least_in, conflict_at, conflict_with, conflict_from, conflict_by, conflict_on, member}
use Rattle.ask_agree.specs.Agree.{clashes, clash_of, clash_from, clash_in, agree_on}

pub packed_some : (e f i : ℕ) → packed_difference e f i ≡ 0 → ⊥
unfolding packed_difference
packed_some e f i h = omega arith

-- ---- a pair, by the sets of its events

pub pair_alike : (d : List ℕ) (n : ℕ) (w m : ℕ → ℕ → Bool) (e f : ℕ) → get_or d (4224 + e) 0 ≡ get_or d (4224 + f) 0 → 0 ≡ conflict_with d n w m e f
unfolding conflict_with
pair_alike d n w m e f h = rw (eq-eqb (get_or d (4224 + e) 0) (get_or d (4224 + f) 0) h)

pub pair_is : (d : List ℕ) (n : ℕ) (writes named : List ℕ) (e f set r : ℕ) → (get_or d (4224 + e) 0 ≡ get_or d (4224 + f) 0 → ⊥)
    → ((i : ℕ) → bit set i ≡ clash (member writes e i) (member named e i) (member writes f i) (member named f i)) → r ≡ least_in set n e f
    → r ≡ conflict_with d n (member writes) (member named) e f
unfolding conflict_with conflict_at least_in
pair_is d n writes named e f set r h g q =
    rw (ne_eqb (get_or d (4224 + e) 0) (get_or d (4224 + f) 0) h)
    (q ∙ first_same n 0 (λ i. pick (bit set i) (packed_difference e f i) 0) (conflict_at d n (member writes) (member named) e f) (λ i a b. rw (g i)))

-- ---- the same sets, the same conflict

module _ (d : List ℕ) (n ev : ℕ) (w m w' m' : ℕ → ℕ → Bool)
    (same : (e i : ℕ) → e < ev → i < n → w e i ≡ w' e i) (also : (e i : ℕ) → e < ev → i < n → m e i ≡ m' e i) where
  with_same : (e f : ℕ) → e < ev → f < ev → conflict_with d n w m e f ≡ conflict_with d n w' m' e f
  unfolding conflict_with conflict_at
  with_same e f a b =
      ap (λ (x : ℕ). pick (eqb (get_or d (4224 + e) 0) (get_or d (4224 + f) 0)) 0 x)
      (first_same n 0 (conflict_at d n w m e f) (conflict_at d n w' m' e f)
      (λ i c k. rw (same e i a (omega arith), same f i b (omega arith), also e i a (omega arith), also f i b (omega arith))))

  from_same : (e : ℕ) → e < ev → conflict_from d n w m ev e ≡ conflict_from d n w' m' ev e
  unfolding conflict_from
  from_same e a = first_same (ev - (e + 1)) (e + 1) (conflict_with d n w m e) (conflict_with d n w' m' e) (λ f b c. with_same e f a (omega arith))

  pub by_same : conflict_by d n w m ev ≡ conflict_by d n w' m' ev
  unfolding conflict_by
  by_same = first_same (ev - 0) 0 (conflict_from d n w m ev) (conflict_from d n w' m' ev) (λ e b c. from_same e (omega arith))

pub conflict_on_law : (d : List ℕ) (ev n : ℕ) (writes named : List ℕ) → WritesIn d ev n writes → NamedIn d ev n named
    → conflict_by d n (member writes) (member named) ev ≡ conflict_on d ev n
conflict_on_law d ev n writes named w m = by_same d n ev (member writes) (member named) (writes_on d) (named_on d ev n) (λ e i a b. w e a i b) (λ e i a b. m e a i b)

-- ---- of the draft's program

module _ (p : Program) (d : List ℕ) (n : ℕ) (fits : Fits p) (dr : Drafted p d n) where
  of_same : (e f : ℕ) → e < events p → f < events p → conflict_with d (size p) (writes p) (named_by p) e f ≡ clash_of p e f
  unfolding conflict_with conflict_at clash_of clash clashes
  of_same e f a b = rw (dr.priorities e a, dr.priorities f b)

  begins_same : (e : ℕ) → e < events p → conflict_from d (size p) (writes p) (named_by p) (events p) e ≡ clash_from p e
  unfolding conflict_from clash_from
  begins_same e a = first_same (events p - (e + 1)) (e + 1) (conflict_with d (size p) (writes p) (named_by p) e) (clash_of p e) (λ f b c. of_same e f a (omega arith))

  in_same : conflict_by d (size p) (writes p) (named_by p) (events p) ≡ clash_in p
  unfolding conflict_by clash_in
  in_same = rw sub-zero (first_same (events p) 0 (conflict_from d (size p) (writes p) (named_by p) (events p)) (clash_from p) (λ e b c. begins_same e (omega arith)))

  drafted_clash : conflict_on d (events p) (size p) ≡ clash_in p
  drafted_clash =
      by_same d (size p) (events p) (writes_on d) (named_on d (events p) (size p)) (writes p) (named_by p)
      (λ e i a b. writes_are p d n fits dr e i (omega (arith, fits.few_events)) b) (λ e i a b. named_are p d n fits dr e i (omega (arith, fits.few_events)) b)
      ∙ in_same

pub draft_clash : {ev bs n : ℕ} {d : List ℕ} (c : DraftOf ev bs n d) → conflict_on d ev bs ≡ clash_in c.program
draft_clash {n = n} {d = d} c = rw (c.events_are, c.size_is) (drafted_clash c.program d n c.fits c.drafted)

-- ---- the answer

pub agree_passed : (s ps : List ℕ) (ev bs : ℕ) (d : List ℕ) → Passes s ps ev bs d → conflict_on d ev bs ≡ agree_on s ps
unfolding agree_on
agree_passed s ps ev bs d f =
    rw (passes_number s ps f, f.drafts.read) (draft_clash f.drafts.draft ∙ ap clash_in f.drafts.own)

pub agree_refused : (s ps : List ℕ) (k : ℕ) → k ≡ number_on s ps → k ≢ 0 → k ≡ agree_on s ps
unfolding agree_on
agree_refused s ps k q h = rw (ne_eqb (number_on s ps) 0 (λ z. h (q ∙ z))) q
