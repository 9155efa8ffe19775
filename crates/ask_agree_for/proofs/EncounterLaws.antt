-- The first meeting on the sets that the code gathers is that of the program: answer by answer.
use Rattle.lib_base.proofs.Prelude.{ℕ, ◌≤◌, ◌<◌, ◌+◌, ◌-◌, ◌≡◌, refl, ◌∙◌, ap, Bool, ◌&&◌, ◌≢◌, List, get_or, eqb, ne_eqb}
use Rattle.lib_base.proofs.Prelude.{eq-eqb, lt-leb, le-leb, arith}
use Rattle.lib_base.specs.Basics.{pick}
use Rattle.lib_bits.specs.Bits.{bit, Gathers}
use Rattle.spec_language.specs.Syntax.{Program}
use Rattle.spec_language.specs.Dependence.{size, events, writes}
use Rattle.check_graph.proofs.Any.{any_same}
use Rattle.check_faults.proofs.CycleDecides.{known_decides}
use Rattle.check_reads.specs.Sets.{passive_on, closed_by, RowsBy, WritesIn}
use Rattle.check_reads.proofs.FirstLaws.{first_same}
use Rattle.check_reads.proofs.Agrees.{writes_are}
use Rattle.back_compile.specs.Number.{number_on}
use Rattle.back_compile.specs.Judged.{Passes}
use Rattle.back_compile.proofs.Judging.{passes_number}
use Rattle.ask_agree.specs.Answer.{packed_difference}
use Rattle.ask_agree.specs.Conflict.{least_in}
use Rattle.ask_meets.specs.Meeting.{in_cone, strict_at, strict_in, meets}
use Rattle.ask_meets.specs.Strict.{cone_on, StrictSets}
use Rattle.ask_meets.proofs.Agrees.{cone_are, strict_are}
use Rattle.ask_agree_for.specs.Encounter.{encounter_at, encounter_with, encounter_from, encounter_by, priority_on, met_by, DraftFor}
use Rattle.ask_agree_for.specs.AgreeFor.{encounter_in, agree_for_in, agree_for_on}

-- ---- one pair

pub pair_alike : (priority : ℕ → ℕ) (n : ℕ) (met : ℕ → ℕ → ℕ → Bool) (e f : ℕ) → priority e ≡ priority f → 0 ≡ encounter_with priority n met e f
unfolding encounter_with
pair_alike priority n met e f h = rw (eq-eqb (priority e) (priority f) h)

pub pair_is : (priority : ℕ → ℕ) (n : ℕ) (met : ℕ → ℕ → ℕ → Bool) (e f set r : ℕ) → (priority e ≡ priority f → ⊥) → ((i : ℕ) → bit set i ≡ met e f i)
    → r ≡ least_in set n e f → r ≡ encounter_with priority n met e f
unfolding encounter_with encounter_at least_in
pair_is priority n met e f set r h g q =
    rw (ne_eqb (priority e) (priority f) h)
    (q ∙ first_same n 0 (λ i. pick (bit set i) (packed_difference e f i) 0) (encounter_at priority n met e f) (λ i a b. rw (g i)))

-- ---- the same priorities and meetings, the same answer

module _ (r r' : ℕ → ℕ) (n ev : ℕ) (m m' : ℕ → ℕ → ℕ → Bool) (same : (e : ℕ) → e < ev → r e ≡ r' e)
    (also : (e f i : ℕ) → e < ev → f < ev → i < n → m e f i ≡ m' e f i) where
  with_same : (e f : ℕ) → e < ev → f < ev → encounter_with r n m e f ≡ encounter_with r' n m' e f
  unfolding encounter_with encounter_at
  with_same e f a b =
      rw (same e a, same f b)
      (ap (λ (x : ℕ). pick (eqb (r' e) (r' f)) 0 x)
      (first_same n 0 (encounter_at r n m e f) (encounter_at r' n m' e f) (λ i c k. rw (also e f i a b (omega arith)))))

  from_same : (e : ℕ) → e < ev → encounter_from r n m ev e ≡ encounter_from r' n m' ev e
  unfolding encounter_from
  from_same e a = first_same (ev - (e + 1)) (e + 1) (encounter_with r n m e) (encounter_with r' n m' e) (λ f b c. with_same e f a (omega arith))

  by_same : encounter_by r n m ev ≡ encounter_by r' n m' ev
  unfolding encounter_by
  by_same = first_same (ev - 0) 0 (encounter_from r n m ev) (encounter_from r' n m' ev) (λ e b c. from_same e (omega arith))

-- ---- of the draft's program

module _ (p : Program) (d : List ℕ) (of : DraftFor p d (events p) (size p)) (D : ℕ → Bool) (cone : ℕ) (rows writes_in strict : List ℕ)
    (g : Gathers (size p) cone D) (by : RowsBy (closed_by (size p) (passive_on d (events p))) (size p) rows)
    (w : WritesIn d (events p) (size p) writes_in) (s : StrictSets d rows (size p) cone (events p) strict) where
  pub writes_same : (e i : ℕ) → e < events p → i < size p → bit (get_or writes_in e 0) i ≡ writes p e i
  writes_same e i a b = w e a i b ∙ writes_are p d of.nodes of.fits of.drafted e i (omega (arith, of.fits.few_events)) b

  pub strict_same : (e i : ℕ) → e < events p → i < size p → bit (get_or strict e 0) i ≡ strict_in p D e i
  unfolding strict_in
  strict_same e i a b =
      s e a i (omega (arith, of.fits.few_behaviours))
      ∙ strict_are p d of.nodes of.fits of.drafted of.known rows by cone e i (omega (arith, of.fits.few_events)) b
      ∙ any_same (size p) (λ k. (bit cone k && writes p e k) && strict_at p e k i) (λ k. (D k && writes p e k) && strict_at p e k i) (λ k c. rw (g k c))

  pub met_same : (e f i : ℕ) → e < events p → f < events p → i < size p → met_by cone writes_in strict e f i ≡ meets p D e f i
  unfolding meets
  met_same e f i a c b = rw (g i b, writes_same e i a b, writes_same f i c b, strict_same e i a b, strict_same f i c b)

  in_same : encounter_by (priority_on d) (size p) (met_by cone writes_in strict) (events p) ≡ encounter_in p D
  unfolding encounter_in
  in_same =
      by_same (priority_on d) (λ e. get_or p.priorities e 0) (size p) (events p) (met_by cone writes_in strict) (meets p D)
      (λ e a. of.drafted.priorities e a) met_same

pub encounter_is : (d : List ℕ) (ev n b cone r : ℕ) (rows writes_in strict : List ℕ) → b < n → Gathers n cone (cone_on d ev n b)
    → RowsBy (closed_by n (passive_on d ev)) n rows → WritesIn d ev n writes_in → StrictSets d rows n cone ev strict
    → r ≡ encounter_by (priority_on d) n (met_by cone writes_in strict) ev → (p : Program) → DraftFor p d ev n → r ≡ encounter_in p (in_cone p b)
encounter_is d ev n b cone r rows writes_in strict h g by w s q p of =
    let of' : DraftFor p d (events p) (size p) = record {
      nodes = of.nodes;
      fits = of.fits;
      drafted = of.drafted;
      known = of.known;
      events_are = refl;
      size_is = refl;
    } in
    let ee = of.events_are in
    let ne = of.size_is in
    let b' : b < size p = rw ne at h in
    let g' : Gathers (size p) cone (cone_on d (events p) (size p) b) = rw (ee, ne) at g in
    let by' : RowsBy (closed_by (size p) (passive_on d (events p))) (size p) rows = rw (ee, ne) at by in
    let w' : WritesIn d (events p) (size p) writes_in = rw (ee, ne) at w in
    let s' : StrictSets d rows (size p) cone (events p) strict = rw (ee, ne) at s in
    let q' : r ≡ encounter_by (priority_on d) (size p) (met_by cone writes_in strict) (events p) = rw (ee, ne) at q in
    q'
    ∙ in_same p d of' (in_cone p b) cone rows writes_in strict
    (λ j c. g' j c ∙ cone_are p d of.nodes of.fits of.drafted of.known b j b' c) by' w' s'

-- ---- the answer

pub no_behaviour_law : (d : List ℕ) (ev n b : ℕ) → n ≤ b → (p : Program) → DraftFor p d ev n → 18 ≡ agree_for_in p b
unfolding agree_for_in
no_behaviour_law d ev n b h p of = let k : size p ≤ b = rw of.size_is at h in rw (le-leb (size p) b k)

pub behaviour_is : (d : List ℕ) (ev n b r : ℕ) → b < n → ((p : Program) → DraftFor p d ev n → r ≡ encounter_in p (in_cone p b))
    → (p : Program) → DraftFor p d ev n → r ≡ agree_for_in p b
unfolding agree_for_in
behaviour_is d ev n b r h g p of = let k : b < size p = rw of.size_is at h in rw (lt-leb (size p) b k) (g p of)

pub draft_for : {s ps : List ℕ} {ev bs : ℕ} {d : List ℕ} (f : Passes s ps ev bs d) → DraftFor f.drafts.draft.program d ev bs
draft_for f = record {
  nodes = f.drafts.nodes;
  fits = f.drafts.draft.fits;
  drafted = f.drafts.draft.drafted;
  known = (known_decides f.drafts.draft.program).0 f.drafts.names;
  events_are = f.drafts.draft.events_are;
  size_is = f.drafts.draft.size_is;
}

pub passed : (s ps : List ℕ) (ev bs : ℕ) (d : List ℕ) (b r : ℕ) → Passes s ps ev bs d → ((p : Program) → DraftFor p d ev bs → r ≡ agree_for_in p b)
    → r ≡ agree_for_on s ps b
unfolding agree_for_on
passed s ps ev bs d b r f g =
    rw (passes_number s ps f, f.drafts.read) (g f.drafts.draft.program (draft_for f) ∙ ap (λ (p : Program). agree_for_in p b) f.drafts.own)

pub refused : (s ps : List ℕ) (k b : ℕ) → k ≡ number_on s ps → k ≢ 0 → k ≡ agree_for_on s ps b
unfolding agree_for_on
refused s ps k b q h = rw (ne_eqb (number_on s ps) 0 (λ z. h (q ∙ z))) q
