-- The answer on the sets that the code gathers is that of the program: test by test at the behaviour that is told.
use Rattle.lib_base.proofs.Prelude.{ℕ, ◌≤◌, ◌<◌, ◌+◌, ◌-◌, ◌≡◌, refl, ◌∙◌, sym, ap, true, false, Bool, ◌||◌, ◌&&◌, ◌≢◌}
use Rattle.lib_base.proofs.Prelude.{List, get_or, eqb, ne_eqb, le-ltb, lt-ltb, eqb-false, arith}
use Rattle.lib_base.specs.Basics.{pick}
use Rattle.lib_base.proofs.Tools.{by_two}
use Rattle.lib_bits.specs.Bits.{bit, Gathers}
use Rattle.spec_language.specs.Syntax.{Program}
use Rattle.spec_language.specs.Dependence.{size, events, writes}
use Rattle.std.specs.Prelude.{Some, None}
use Rattle.check_graph.specs.First.{FirstOf}
use Rattle.check_reads.specs.Sets.{passive_on, closed_by, RowsBy, WritesIn, NamedIn}
use Rattle.check_reads.specs.Named.{named_by}
use Rattle.check_reads.proofs.FirstLaws.{none_given, first_given, first_found, first_same}
use Rattle.check_reads.proofs.Agrees.{named_are}
use Rattle.back_compile.specs.Number.{number_on}
use Rattle.back_compile.specs.Judged.{Passes}
use Rattle.back_compile.proofs.Judging.{passes_number}
use Rattle.ask_agree.specs.Agree.{clashes}
use Rattle.ask_meets.specs.Meeting.{strict_in, meeting, meets}
use Rattle.ask_meets.specs.Strict.{StrictSets}
use Rattle.ask_agree_for.specs.Encounter.{DraftFor}
use Rattle.ask_agree_for.proofs.EncounterLaws.{writes_same, strict_same, draft_for}
use Rattle.ask_pair.specs.Pair.{everyone, weight, least_told, flags_at, packed_pair, pair_by, pair_by_sets, pair_of, pair_in, pair_on}

-- ---- the least

pub first_told : (set n i : ℕ) → FirstOf (bit set) n (Some i) → i + 1 ≡ least_told n (bit set)
unfolding least_told
first_told set n i w = first_given n (bit set) (λ j. j + 1) i w.0 w.1 w.2 (λ z. omega arith)

pub none_told : (set n : ℕ) → FirstOf (bit set) n None → 0 ≡ least_told n (bit set)
unfolding least_told
none_told set n w = none_given n (bit set) (λ j. j + 1) w

least_same : (n : ℕ) (f g : ℕ → Bool) → ((i : ℕ) → i < n → f i ≡ g i) → least_told n f ≡ least_told n g
unfolding least_told
least_same n f g h = first_same n 0 (λ i. pick (f i) (i + 1) 0) (λ i. pick (g i) (i + 1) 0) (λ i a b. rw (h i (omega arith)))

at_most : (t : Bool) (i : ℕ) → pick t (i + 1) 0 ≤ i + 1
at_most true i = omega arith
at_most false i = omega arith

least_within : (n : ℕ) (f : ℕ → Bool) → least_told n f ≢ 0 → least_told n f - 1 < n
unfolding least_told
least_within n f h =
    let a = first_found n 0 (λ i. pick (f i) (i + 1) 0) (least_told n f) refl h in
    omega (arith, a.below, a.answer, at_most (f a.place) a.place)

-- ---- a flag

pub weight_set : (set i k : ℕ) {t : Bool} → t ≡ bit set i → t ≡ true → k ≡ weight (bit set i) k
weight_set set i k q s = rw (sym q ∙ s)

pub weight_none : (set i k : ℕ) {t : Bool} → t ≡ bit set i → t ≡ false → 0 ≡ weight (bit set i) k
weight_none set i k q s = rw (sym q ∙ s)

-- ---- the answer by sets

pub by_meet : (we wf re rf : ℕ → Bool) (n : ℕ) (met shared : ℕ → Bool) (i r : ℕ) → i + 1 ≡ least_told n met → r ≡ packed_pair we wf re rf 32 i
    → r ≡ pair_by we wf re rf n met shared
unfolding pair_by
by_meet we wf re rf n met shared i r q e = let z : i + 1 - 1 ≡ i = omega arith in rw (← q, ne_eqb (i + 1) 0 (λ w. omega arith), z) e

pub by_share : (we wf re rf : ℕ → Bool) (n : ℕ) (met shared : ℕ → Bool) (i r : ℕ) → 0 ≡ least_told n met → i + 1 ≡ least_told n shared
    → r ≡ packed_pair we wf re rf 16 i → r ≡ pair_by we wf re rf n met shared
unfolding pair_by
by_share we wf re rf n met shared i r q p e = let z : i + 1 - 1 ≡ i = omega arith in rw (← q, ← p, ne_eqb (i + 1) 0 (λ w. omega arith), z) e

pub by_none : (we wf re rf : ℕ → Bool) (n : ℕ) (met shared : ℕ → Bool) → 0 ≡ least_told n met → 0 ≡ least_told n shared → 0 ≡ pair_by we wf re rf n met shared
unfolding pair_by
by_none we wf re rf n met shared q p = rw (← q, ← p) refl

-- ---- the same tests, the same answer

module _ (we wf re rf we' wf' re' rf' : ℕ → Bool) (n : ℕ) (met shared met' shared' : ℕ → Bool)
    (a : (i : ℕ) → i < n → we i ≡ we' i) (b : (i : ℕ) → i < n → wf i ≡ wf' i) (c : (i : ℕ) → i < n → re i ≡ re' i) (d : (i : ℕ) → i < n → rf i ≡ rf' i) where
  packed_same : (kind i : ℕ) → i < n → packed_pair we wf re rf kind i ≡ packed_pair we' wf' re' rf' kind i
  unfolding packed_pair flags_at
  packed_same kind i h = rw (a i h, b i h, c i h, d i h)

  pub pair_same : ((i : ℕ) → i < n → met i ≡ met' i) → ((i : ℕ) → i < n → shared i ≡ shared' i)
      → pair_by we wf re rf n met shared ≡ pair_by we' wf' re' rf' n met' shared'
  unfolding pair_by
  pair_same h k =
      rw (least_same n met met' h, least_same n shared shared' k)
      (by_two (λ x y. x ≡ y) (eqb (least_told n met') 0)
      (λ _. by_two (λ x y. x ≡ y) (eqb (least_told n shared') 0) (λ _. refl)
      (λ t. packed_same 16 (least_told n shared' - 1) (least_within n shared' (eqb-false (least_told n shared') 0 t))))
      (λ t. packed_same 32 (least_told n met' - 1) (least_within n met' (eqb-false (least_told n met') 0 t))))

-- the sets as the code unites them
pub by_sets : (writes named strict : List ℕ) (n e f both met shared r : ℕ)
    → ((i : ℕ) → bit both i ≡ bit (get_or writes f 0) i || bit (get_or named f 0) i)
    → ((i : ℕ) → bit met i ≡ (bit (get_or writes e 0) i && bit (get_or strict f 0) i) || (bit (get_or writes f 0) i && bit (get_or strict e 0) i))
    → ((i : ℕ) → bit shared i ≡ (bit (get_or writes e 0) i && bit both i) || (bit (get_or writes f 0) i && bit (get_or named e 0) i))
    → r ≡ pair_by (bit (get_or writes e 0)) (bit (get_or writes f 0)) (bit (get_or named e 0)) (bit (get_or named f 0)) n (bit met) (bit shared)
    → r ≡ pair_by_sets writes named strict n e f
unfolding pair_by_sets
by_sets writes named strict n e f both met shared r h g k q =
    q
    ∙ pair_same (bit (get_or writes e 0)) (bit (get_or writes f 0)) (bit (get_or named e 0)) (bit (get_or named f 0))
    (bit (get_or writes e 0)) (bit (get_or writes f 0)) (bit (get_or named e 0)) (bit (get_or named f 0)) n (bit met) (bit shared)
    (λ i. (bit (get_or writes e 0) i && bit (get_or strict f 0) i) || (bit (get_or writes f 0) i && bit (get_or strict e 0) i))
    (λ i. (bit (get_or writes e 0) i && (bit (get_or writes f 0) i || bit (get_or named f 0) i)) || (bit (get_or writes f 0) i && bit (get_or named e 0) i))
    (λ i b. refl) (λ i b. refl) (λ i b. refl) (λ i b. refl) (λ i b. g i) (λ i b. k i ∙ rw (h i))

-- ---- of the draft's program

module _ (p : Program) (d : List ℕ) (of : DraftFor p d (events p) (size p)) (all : ℕ) (rows writes_in named strict : List ℕ)
    (g : Gathers (size p) all everyone) (by : RowsBy (closed_by (size p) (passive_on d (events p))) (size p) rows)
    (w : WritesIn d (events p) (size p) writes_in) (m : NamedIn d (events p) (size p) named) (s : StrictSets d rows (size p) all (events p) strict) where
  writes_are : (e i : ℕ) → e < events p → i < size p → bit (get_or writes_in e 0) i ≡ writes p e i
  writes_are = writes_same p d of everyone all rows writes_in strict g by w s

  strict_are : (e i : ℕ) → e < events p → i < size p → bit (get_or strict e 0) i ≡ strict_in p everyone e i
  strict_are = strict_same p d of everyone all rows writes_in strict g by w s

  names_are : (e i : ℕ) → e < events p → i < size p → bit (get_or named e 0) i ≡ named_by p e i
  names_are e i a b = m e a i b ∙ named_are p d of.nodes of.fits of.drafted e i (omega (arith, of.fits.few_events)) b

  of_same : (e f : ℕ) → e < events p → f < events p → pair_by_sets writes_in named strict (size p) e f ≡ pair_of p e f
  unfolding pair_by_sets pair_of meets meeting clashes
  of_same e f a b =
      pair_same (bit (get_or writes_in e 0)) (bit (get_or writes_in f 0)) (bit (get_or named e 0)) (bit (get_or named f 0)) (writes p e) (writes p f) (named_by p e) (named_by p f) (size p)
      (λ i. (bit (get_or writes_in e 0) i && bit (get_or strict f 0) i) || (bit (get_or writes_in f 0) i && bit (get_or strict e 0) i))
      (λ i. (bit (get_or writes_in e 0) i && (bit (get_or writes_in f 0) i || bit (get_or named f 0) i)) || (bit (get_or writes_in f 0) i && bit (get_or named e 0) i))
      (meets p everyone e f) (clashes p e f)
      (λ i h. writes_are e i a h) (λ i h. writes_are f i b h) (λ i h. names_are e i a h) (λ i h. names_are f i b h)
      (λ i h. rw (writes_are e i a h, writes_are f i b h, strict_are e i a h, strict_are f i b h))
      (λ i h. rw (writes_are e i a h, writes_are f i b h, names_are e i a h, names_are f i b h))

pub pair_is : (d : List ℕ) (ev n e f all r : ℕ) (rows writes_in named strict : List ℕ) → e < ev → f < ev → Gathers n all everyone
    → RowsBy (closed_by n (passive_on d ev)) n rows → WritesIn d ev n writes_in → NamedIn d ev n named → StrictSets d rows n all ev strict
    → r ≡ pair_by_sets writes_in named strict n e f → (p : Program) → DraftFor p d ev n → r ≡ pair_of p e f
pair_is d ev n e f all r rows writes_in named strict a b g by w m s q p of =
    let of' : DraftFor p d (events p) (size p) = record {
      nodes = of.nodes;
      fits = of.fits;
      drafted = of.drafted;
      known = of.known;
      events_are = refl;
      size_is = refl;
    } in
    let ee = of.events_are in
    let ne = of.size_is in
    let a' : e < events p = rw ee at a in
    let b' : f < events p = rw ee at b in
    let g' : Gathers (size p) all everyone = rw ne at g in
    let by' : RowsBy (closed_by (size p) (passive_on d (events p))) (size p) rows = rw (ee, ne) at by in
    let w' : WritesIn d (events p) (size p) writes_in = rw (ee, ne) at w in
    let m' : NamedIn d (events p) (size p) named = rw (ee, ne) at m in
    let s' : StrictSets d rows (size p) all (events p) strict = rw (ee, ne) at s in
    let q' : r ≡ pair_by_sets writes_in named strict (size p) e f = rw ne at q in
    q' ∙ of_same p d of' all rows writes_in named strict g' by' w' m' s' e f a' b'

-- ---- the answer

pub declared : (d : List ℕ) (ev n e f r : ℕ) → e < ev → f < ev → ((p : Program) → DraftFor p d ev n → r ≡ pair_of p e f)
    → (p : Program) → DraftFor p d ev n → r ≡ pair_in p e f
unfolding pair_in
declared d ev n e f r a b g p of =
    let a' : e < events p = rw of.events_are at a in
    let b' : f < events p = rw of.events_are at b in
    rw (lt-ltb e (events p) a', lt-ltb f (events p) b') (g p of)

pub second_not : (d : List ℕ) (ev n e f : ℕ) → e < ev → ev ≤ f → (p : Program) → DraftFor p d ev n → 15 ≡ pair_in p e f
unfolding pair_in
second_not d ev n e f a b p of =
    let a' : e < events p = rw of.events_are at a in
    let b' : events p ≤ f = rw of.events_are at b in
    rw (lt-ltb e (events p) a', le-ltb f (events p) b')

pub first_not : (d : List ℕ) (ev n e f : ℕ) → ev ≤ e → (p : Program) → DraftFor p d ev n → 15 ≡ pair_in p e f
unfolding pair_in
first_not d ev n e f a p of = let a' : events p ≤ e = rw of.events_are at a in rw (le-ltb e (events p) a')

pub passed : (s ps : List ℕ) (ev bs : ℕ) (d : List ℕ) (e f r : ℕ) → Passes s ps ev bs d → ((p : Program) → DraftFor p d ev bs → r ≡ pair_in p e f)
    → r ≡ pair_on s ps e f
unfolding pair_on
passed s ps ev bs d e f r h g =
    rw (passes_number s ps h, h.drafts.read) (g h.drafts.draft.program (draft_for h) ∙ ap (λ (p : Program). pair_in p e f) h.drafts.own)

pub refused : (s ps : List ℕ) (k e f : ℕ) → k ≡ number_on s ps → k ≢ 0 → k ≡ pair_on s ps e f
unfolding pair_on
refused s ps k e f q h = rw (ne_eqb (number_on s ps) 0 (λ z. h (q ∙ z))) q
