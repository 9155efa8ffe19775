-- What the readings of behaviours promise, in terms of the reader's functions (`behaviour_declared` and its parts).
use Rattle.std.specs.Prelude.{Option, None, Some, Result, Ok, Err, ℕ, ◌+◌, ◌*◌, ◌≤◌, ◌<◌, true, false, ◌||◌, ◌≡◌, List, ◌∷◌, ◌++◌, map, length, get_or, take, ltb, eqb, []}
use Rattle.lib_base.specs.Basics.{pick, All}
use Rattle.spec_language.specs.Sheet.{Entry}
use Rattle.spec_language.specs.Grammar.{encode_behaviours}
use Rattle.source_language.specs.Tokens.{SheetToken, sign, bracket, unbracket, row_word}
use Rattle.source_language.specs.Text.{passive, active, row, TextEvent, TextBehaviour, behaviour, Text}
use Rattle.source_language.specs.Faults.{off_scale, too_many_fault, declared_twice_fault}
use Rattle.source_language.specs.Limits.{among, largest, body_cells, after_all, with_event, taken, with_behaviour}
use Rattle.source_language.specs.Meaning.{NameMeaning, entries_of}
use Rattle.source_language.specs.Reader.{Phrased, bad, got, sign_at, past_sign, name_due, number_due, many_of, behaviour_declared, behaviour_begins, text_ends}
use Rattle.source_coding.specs.FaultWords.{fault_of, fault_in}
use Rattle.source_coding.specs.declared.faults.Fault.{Fault}
use Rattle.source_coding.specs.Places.{tokens_from, name_at, names_held}
use Rattle.source_coding.specs.Sizes.{behaviours_size}
use Rattle.source_due.specs.Due.{Due}
use Rattle.source_due.specs.declared.Found.{Found}
use Rattle.source_declarations.specs.Declarations.{name_of_event}
use Rattle.source_handlers.specs.Parts.{Coding, PartWritten}
use Rattle.source_body.specs.Body.{behaviour_coding}
use Rattle.source_behaviours.specs.declared.Behaviour.{Behaviour}
use Rattle.source_behaviours.specs.declared.Behaviours.{Behaviours}

-- a behaviour, and all of them, or a fault
abbrev pub BehaviourDue : Type 0
BehaviourDue = Result Behaviour Fault

abbrev pub behaved : ℕ → ℕ → ℕ → ℕ → Option Fault → BehaviourDue
behaved q cells to end w = Ok (record { place = q; cells = cells; next = to; end = end; stray = w })

abbrev pub BehavioursDue : Type 0
BehavioursDue = Result Behaviours Fault

abbrev pub all_behaved : ℕ → ℕ → ℕ → Option Fault → BehavioursDue
all_behaved to count end w = Ok (record { next = to; count = count; end = end; stray = w })

-- ---- how behaviours become bytes

module _ (es : List TextEvent) (find : List ℕ → NameMeaning) where
  abbrev pub behaviours_coding : Coding (List TextBehaviour) (List Entry)
  behaviours_coding = record { resolved = entries_of es find; encoded = encode_behaviours; sized = behaviours_size }

-- ---- the parts of a behaviour: the reader's `behaviour_declared`, a step at a time

-- a name that is not taken
abbrev pub new_name : List (List ℕ) → List SheetToken → Phrased (List ℕ)
new_name ns ts = name_due (λ p s us. pick (among s ns) (bad declared_twice_fault p) (got s us)) ts

-- a row's count, from its end to its beginning; and 0 for another behaviour
abbrev pub closed_cells : ℕ → List SheetToken → Phrased ℕ
closed_cells n ts = past_sign unbracket (got n) ts

abbrev pub counted_cells : ℕ → List SheetToken → Phrased ℕ
counted_cells i ts =
    number_due largest (λ p n us.
    pick (ltb n 2 || ltb 16 n) (bad off_scale p)
    (pick (ltb 64 (i + n)) (bad too_many_fault p)
    (closed_cells n us))) ts

abbrev pub cells_said : ℕ → ℕ → List SheetToken → Phrased ℕ
cells_said i c ts = pick (eqb c row_word) (past_sign bracket (counted_cells i) ts) (got 0 ts)

-- how many numbers it takes, by that
abbrev pub numbers_taken : ℕ → ℕ
numbers_taken k = pick (eqb k 0) 1 k

-- ---- what is known of a behaviour beside its bytes

abbrev pub name_of_behaviour : TextBehaviour → List ℕ
name_of_behaviour (behaviour s b m) = s

abbrev pub cells_of_behaviour : TextBehaviour → ℕ
cells_of_behaviour (behaviour s b m) = body_cells b

-- a row has two cells or more, so that its count tells it from another behaviour
abbrev pub RowTold : TextBehaviour → Type 0
RowTold (behaviour s (passive e) m) = Unit {0}
RowTold (behaviour s (active v hs) m) = Unit {0}
RowTold (behaviour s (row n v hs) m) = 2 ≤ n

unfoldable pub cells_of_all : List TextBehaviour → ℕ
cells_of_all [] = 0
cells_of_all (b ∷ bs) = cells_of_behaviour b + cells_of_all bs

-- ---- what the code's functions promise

-- the name at its place
abbrev pub NamedAt : List ℕ → ℕ → ℕ → List ℕ → Type 0
NamedAt text p v s = s ≡ name_at text p

abbrev pub CountIs : ℕ → ℕ → ℕ → Type 0
CountIs p v n = v ≡ n

-- a count leaves room among the 64; another behaviour takes no tokens for it
abbrev pub CellsWithin : ℕ → ℕ → ℕ → Due → Type 0
CellsWithin long at i (Err w) = Unit {0}
CellsWithin long at i (Ok d) = (at ≤ d.next) × (d.next ≤ long) × (d.number ≤ 16) × (i + d.number ≤ 64)

abbrev pub ClosedWithin : ℕ → ℕ → ℕ → Due → Type 0
ClosedWithin long at n (Err w) = Unit {0}
ClosedWithin long at n (Ok d) = (at < d.next) × (d.next ≤ long) × (d.number ≡ n)

abbrev pub WordWithin : ℕ → ℕ → Option Found → Type 0
WordWithin long at None = Unit {0}
WordWithin long at (Some d) = (at ≤ d.place) × (d.place < d.next) × (d.next ≤ long)

-- a word that begins a behaviour
abbrev pub WordRead : List ℕ → ℕ → Option Found → Type 0
WordRead text at None = behaviour_begins (sign_at (tokens_from text at)) ≡ false
WordRead text at (Some d) = (tokens_from text at ≡ sign d.place d.number ∷ tokens_from text d.next) × (behaviour_begins d.number ≡ true)

-- a behaviour x was read, whose name stands at q
pub record BehaviourWritten (es : List TextEvent) (find : List ℕ → NameMeaning) (text : List ℕ) (n : ℕ) (o p : List ℕ) (q cells to end : ℕ) (w : Option Fault) (x : TextBehaviour) (us : List SheetToken) : Type 0 where
  pub part : PartWritten (behaviour_coding es find) text n o p to end w x us
  pub named : name_of_behaviour x ≡ name_at text q
  pub celled : cells_of_behaviour x ≡ cells
  pub told : RowTold x

abbrev pub BehaviourAgrees : List TextEvent → (List ℕ → NameMeaning) → List ℕ → ℕ → List ℕ → List ℕ → BehaviourDue → Phrased TextBehaviour → Type 0
BehaviourAgrees es find text n o p (Err w) (bad k i) = w ≡ fault_of k i
BehaviourAgrees es find text n o p (Err w) (got x us) = ⊥
BehaviourAgrees es find text n o p (Ok b) (bad k i) = ⊥
BehaviourAgrees es find text n o p (Ok b) (got x us) = BehaviourWritten es find text n o p b.place b.cells b.next b.end b.stray x us

-- a behaviour whose word c stands at q, behind as many cells as i and as many names
abbrev pub BehaviourRead : List ℕ → (List ℕ → NameMeaning) → List ℕ → List ℕ → ℕ → ℕ → ℕ → ℕ → ℕ → ℕ → List ℕ → List ℕ → BehaviourDue → Type 0
BehaviourRead text find events names count i q c at n o p r =
    (es : List TextEvent) → map (name_at text) events ≡ map name_of_event es
    → BehaviourAgrees es find text n o p r (behaviour_declared (after_all with_event [] es) (taken (names_held text names count) i) (sign q c ∷ tokens_from text at))

abbrev pub BehaviourWithin : ℕ → ℕ → ℕ → ℕ → BehaviourDue → Type 0
BehaviourWithin long at n i (Err w) = Unit {0}
BehaviourWithin long at n i (Ok b) =
    (at ≤ b.next) × (b.next ≤ long) × (n ≤ b.end) × (b.end + at * 16 ≤ n + b.next * 16) × (0 < b.cells) × (i + b.cells ≤ 64)

-- ---- all behaviours

-- the number of each behaviour's first cell, and behind the last the number of all
abbrev pub StartsAre : List ℕ → List TextBehaviour → Type 0
StartsAre starts bs = (k : ℕ) → k ≤ length bs → get_or starts k 0 ≡ cells_of_all (take k bs)

-- behaviours bs were read, whose names stand behind those of the first `params` places
pub record BehavioursWritten (es : List TextEvent) (find : List ℕ → NameMeaning) (text : List ℕ) (n : ℕ) (o p old : List ℕ) (params : ℕ) (names starts : List ℕ) (to count end : ℕ) (w : Option Fault) (bs : List TextBehaviour) (us : List SheetToken) : Type 0 where
  pub part : PartWritten (behaviours_coding es find) text n o p to end w bs us
  pub named : map (name_at text) (take count names) ≡ map (name_at text) (take params old) ++ map name_of_behaviour bs
  pub started : StartsAre starts bs
  pub told : All RowTold bs

abbrev pub BehavioursAgree : List TextEvent → (List ℕ → NameMeaning) → List ℕ → ℕ → List ℕ → List ℕ → List ℕ → ℕ → List ℕ → List ℕ → BehavioursDue → Phrased (List TextBehaviour) → Type 0
BehavioursAgree es find text n o p old params names starts (Err w) (bad k i) = w ≡ fault_of k i
BehavioursAgree es find text n o p old params names starts (Err w) (got bs us) = ⊥
BehavioursAgree es find text n o p old params names starts (Ok b) (bad k i) = ⊥
BehavioursAgree es find text n o p old params names starts (Ok b) (got bs us) =
    BehavioursWritten es find text n o p old params names starts b.next b.count b.end b.stray bs us

-- the behaviours that begin these tokens, the names ns being taken: the last part of `declarations_of`
abbrev pub behaviours_declared : List (List ℕ) → List (List ℕ) → List SheetToken → Phrased (List TextBehaviour)
behaviours_declared es ns ts = many_of behaviour_begins (behaviour_declared es) with_behaviour (length ts) (taken ns 0) ts

abbrev pub BehavioursRead : List ℕ → (List ℕ → NameMeaning) → List ℕ → ℕ → ℕ → List ℕ → List ℕ → List ℕ → ℕ → List ℕ → List ℕ → BehavioursDue → Type 0
BehavioursRead text find events at n o p old params names starts r =
    (es : List TextEvent) → map (name_at text) events ≡ map name_of_event es
    → BehavioursAgree es find text n o p old params names starts r (behaviours_declared (after_all with_event [] es) (names_held text old params) (tokens_from text at))

abbrev pub BehavioursWithin : ℕ → ℕ → ℕ → BehavioursDue → Type 0
BehavioursWithin long n params (Err w) = Unit {0}
BehavioursWithin long n params (Ok b) = (b.next ≤ long) × (n ≤ b.end) × (b.end ≤ b.next * 16) × (params ≤ b.count) × (b.count ≤ params + 64)

-- the fault where a text does not end, whatever it says
abbrev pub EndFault : List ℕ → ℕ → Option Fault → Type 0
EndFault text at r = (x : Text) → r ≡ fault_in (text_ends x (tokens_from text at))
