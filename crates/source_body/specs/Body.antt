-- What the readings of a behaviour from behind its name and count on promise, in terms of the reader's functions
-- (`passive_declared`, `state_of`).
use Rattle.std.specs.Prelude.{Ok, Err, ℕ, ◌+◌, ◌*◌, ◌≤◌, ◌<◌, ◌≡◌, List, map, eqb, []}
use Rattle.std.proofs.Math.Option.{Option}
use Rattle.lib_base.specs.Basics.{pick}
use Rattle.spec_language.specs.Sheet.{Entry}
use Rattle.spec_language.specs.Reading.{entry}
use Rattle.spec_language.specs.Grammar.{encode_behaviour}
use Rattle.source_language.specs.Tokens.{SheetToken, equals, passive_word}
use Rattle.source_language.specs.Text.{TextConstant, Reaction, Body, active, row, TextEvent, TextBehaviour, behaviour}
use Rattle.source_language.specs.Faults.{OrFault, fine, and_then}
use Rattle.source_language.specs.Limits.{after_all, with_event}
use Rattle.source_language.specs.Meaning.{NameMeaning, constant_word, rights_of, item_of}
use Rattle.source_language.specs.Reader.{Phrased, got, then_phrase, past_sign, value_of, read_reactions, passive_declared, state_of}
use Rattle.source_coding.specs.Places.{tokens_from, name_at}
use Rattle.source_coding.specs.Sizes.{body_size, viewer_size}
use Rattle.source_due.specs.Due.{Due}
use Rattle.source_declarations.specs.Players.{rights_number}
use Rattle.source_declarations.specs.Declarations.{name_of_event}
use Rattle.source_handlers.specs.Parts.{PartDue, Coding, PartAgrees}

-- ---- how a behaviour becomes bytes

abbrev pub behaviour_size : TextBehaviour → ℕ
behaviour_size (behaviour s b m) = 3 + (body_size b + viewer_size m)

module _ (es : List TextEvent) (find : List ℕ → NameMeaning) where
  abbrev pub entry_meant : TextBehaviour → OrFault Entry
  entry_meant (behaviour s b m) = and_then (item_of es find b) (λ x. fine (entry x (rights_of m)))

  abbrev pub behaviour_coding : Coding TextBehaviour Entry
  behaviour_coding = record { resolved = entry_meant; encoded = encode_behaviour; sized = behaviour_size }

-- an active's tag, or a row's
abbrev pub body_tag : ℕ → ℕ
body_tag c = pick (eqb c 0) 3 6

-- ---- the reader's functions for what stands behind a name and count, a step at a time

-- a row of so many cells, or an active
abbrev pub body_made : ℕ → TextConstant → List Reaction → Body
body_made c = pick (eqb c 0) active (row c)

-- a behaviour by its first word, from behind its name and count on
abbrev pub kind_read : List (List ℕ) → List ℕ → ℕ → ℕ → List SheetToken → Phrased TextBehaviour
kind_read es s c k ts = pick (eqb c passive_word) (passive_declared s ts) (state_of es s (body_made k) ts)

abbrev pub start_declared : List SheetToken → Phrased TextConstant
start_declared ts = past_sign equals value_of ts

-- ---- what the code's functions promise

abbrev pub StartWordIs : ℕ → ℕ → TextConstant → Type 0
StartWordIs p v c = v ≡ constant_word c

abbrev pub StartWithin : ℕ → ℕ → Due → Type 0
StartWithin long at (Err w) = Unit {0}
StartWithin long at (Ok d) = (at < d.next) × (d.next ≤ long) × (d.number < 4294967296)

-- an active or a row from its handlers on, whatever the events are whose names stand at these places
abbrev pub StateRead : List ℕ → (List ℕ → NameMeaning) → List ℕ → ℕ → ℕ → ℕ → ℕ → ℕ → List ℕ → List ℕ → PartDue → Type 0
StateRead text find events c start bits at n o p r =
    (es : List TextEvent) → map (name_at text) events ≡ map name_of_event es
    → (s : List ℕ) (v : TextConstant) (m : Option (List ℕ)) → start ≡ constant_word v → bits ≡ rights_number m
    → PartAgrees (behaviour_coding es find) text n o p r
    (then_phrase (read_reactions (after_all with_event [] es) (tokens_from text at)) (λ hs us. got (behaviour s (body_made c v hs) m) us))

-- of the field's bytes before the handlers, and behind them, the text before gives enough
abbrev pub StateWithin : ℕ → ℕ → ℕ → PartDue → Type 0
StateWithin long at n (Err w) = Unit {0}
StateWithin long at n (Ok y) = (at ≤ y.next) × (y.next ≤ long) × (n ≤ y.end) × (y.end + at * 16 ≤ n + 16 + y.next * 16)

-- a passive, and an active or a row, from behind its name and count on
abbrev pub PassiveRead : List ℕ → (List ℕ → NameMeaning) → ℕ → ℕ → List ℕ → List ℕ → PartDue → Type 0
PassiveRead text find at n o p r = (es : List TextEvent) (s : List ℕ) → PartAgrees (behaviour_coding es find) text n o p r (passive_declared s (tokens_from text at))

abbrev pub StateDeclared : List ℕ → (List ℕ → NameMeaning) → List ℕ → ℕ → ℕ → ℕ → List ℕ → List ℕ → PartDue → Type 0
StateDeclared text find events c at n o p r =
    (es : List TextEvent) → map (name_at text) events ≡ map name_of_event es
    → (s : List ℕ) → PartAgrees (behaviour_coding es find) text n o p r (state_of (after_all with_event [] es) s (body_made c) (tokens_from text at))

-- a behaviour from behind its name and count on
abbrev pub KindRead : List ℕ → (List ℕ → NameMeaning) → List ℕ → ℕ → ℕ → ℕ → ℕ → List ℕ → List ℕ → PartDue → Type 0
KindRead text find events c k at n o p r =
    (es : List TextEvent) → map (name_at text) events ≡ map name_of_event es
    → (s : List ℕ) → PartAgrees (behaviour_coding es find) text n o p r (kind_read (after_all with_event [] es) s c k (tokens_from text at))
