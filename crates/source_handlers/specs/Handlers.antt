-- What the readings of a behaviour's handlers promise, in terms of the reader's functions (`read_reactions`).
use Rattle.std.specs.Prelude.{Ok, Err, ℕ, ◌+◌, ◌≤◌, ◌<◌, ◌≡◌, List, map, length, get_or, eqb, []}
use Rattle.lib_base.specs.Basics.{pick}
use Rattle.spec_language.specs.Syntax.{Phase, immediate, later}
use Rattle.spec_language.specs.Sheet.{Clause, clause}
use Rattle.spec_language.specs.Grammar.{encode_phase, encode_handler, encode_handlers}
use Rattle.source_language.specs.Tokens.{SheetToken, colon, later_word}
use Rattle.source_language.specs.Text.{Reaction, on, TextEvent}
use Rattle.source_language.specs.Faults.{second_handler_fault, unknown_name, OrFault, fine, and_then}
use Rattle.source_language.specs.Limits.{among, after_all, with_event}
use Rattle.source_language.specs.Meaning.{NameMeaning, event_named, term_of, clauses_of}
use Rattle.source_language.specs.Reader.{Phrased, bad, got, sign_at, tokens_after, past_sign, name_due, body_declared, read_reactions}
use Rattle.source_coding.specs.Places.{tokens_from, name_at, names_held, index_in}
use Rattle.source_coding.specs.Sizes.{phrase_size, reactions_size}
use Rattle.source_due.specs.Due.{Due}
use Rattle.source_declarations.specs.Declarations.{name_of_event}
use Rattle.source_handlers.specs.Parts.{PartDue, Coding, PartAgrees, DueRead}

-- ---- how handlers become bytes, in a row of c cells

abbrev pub reaction_size : Reaction → ℕ
reaction_size (on s φ e) = 5 + phrase_size e

module _ (es : List TextEvent) (find : List ℕ → NameMeaning) (c : ℕ) where
  abbrev pub clause_of : Reaction → OrFault Clause
  clause_of (on s φ e) = and_then (term_of find c e) (λ x. fine (clause (event_named es s) φ x))

  abbrev pub handler_coding : Coding Reaction Clause
  handler_coding = record { resolved = clause_of; encoded = encode_handler; sized = reaction_size }

  abbrev pub handlers_coding : Coding (List Reaction) (List Clause)
  handlers_coding = record { resolved = clauses_of es find c; encoded = encode_handlers; sized = reactions_size }

-- ---- the parts of a handler: the reader's `reaction_of`, a step at a time

-- the event's name, of which ns have handlers already
abbrev pub handler_event : List (List ℕ) → List (List ℕ) → List SheetToken → Phrased (List ℕ)
handler_event es ns ts = name_due (λ p s us. pick (among s ns) (bad second_handler_fault p) (pick (among s es) (got s us) (bad unknown_name p))) ts

abbrev pub phase_declared : List SheetToken → Phrased Phase
phase_declared ts = pick (eqb (sign_at ts) later_word) (past_sign colon (got later) (tokens_after ts)) (past_sign colon (got immediate) ts)

abbrev pub reaction_body : List ℕ → List SheetToken → Phrased Reaction
reaction_body s ts = pick (eqb (sign_at ts) later_word) (body_declared s later (tokens_after ts)) (body_declared s immediate ts)

-- ---- what the code's functions promise

-- the names ns have handlers: their events' numbers are marked
abbrev pub EventsMarked : List ℕ → List ℕ → List ℕ → List (List ℕ) → Type 0
EventsMarked text events marks ns = (s : List ℕ) → among s ns ≡ eqb (get_or marks (index_in text events s) 0) 1

-- an event's name and number
abbrev pub EventNumbered : List ℕ → List ℕ → ℕ → ℕ → List ℕ → Type 0
EventNumbered text events p v s = v ≡ index_in text events s

abbrev pub HandledEventRead : List ℕ → List ℕ → List ℕ → ℕ → Due → Type 0
HandledEventRead text events marks at r =
    (ns : List (List ℕ)) → EventsMarked text events marks ns
    → DueRead (EventNumbered text events) text r (handler_event (names_held text events (length events)) ns (tokens_from text at))

abbrev pub HandledEventWithin : ℕ → Due → Type 0
HandledEventWithin count (Err w) = Unit {0}
HandledEventWithin count (Ok d) = d.number < count

abbrev pub PhaseNumbered : ℕ → ℕ → Phase → Type 0
PhaseNumbered p v φ = v ≡ encode_phase φ

abbrev pub ColonRead : List ℕ → ℕ → ℕ → Due → Type 0
ColonRead text at v r = (φ : Phase) → v ≡ encode_phase φ → DueRead PhaseNumbered text r (past_sign colon (got φ) (tokens_from text at))

abbrev pub PhaseWithin : ℕ → ℕ → Due → Type 0
PhaseWithin long at (Err w) = Unit {0}
PhaseWithin long at (Ok d) = (at < d.next) × (d.next ≤ long) × (d.number ≤ 1)

-- a handler of event e from its phase on, whatever the events are, and its name
abbrev pub HandlerRead : List ℕ → (List ℕ → NameMeaning) → ℕ → ℕ → ℕ → ℕ → List ℕ → List ℕ → PartDue → Type 0
HandlerRead text find c e at n o p r =
    (es : List TextEvent) (s : List ℕ) → e ≡ event_named es s → PartAgrees (handler_coding es find c) text n o p r (reaction_body s (tokens_from text at))

-- all handlers, whatever the events are whose names stand at these places
abbrev pub HandlersRead : List ℕ → (List ℕ → NameMeaning) → ℕ → List ℕ → ℕ → ℕ → List ℕ → List ℕ → PartDue → Type 0
HandlersRead text find c events at n o p r =
    (es : List TextEvent) → map (name_at text) events ≡ map name_of_event es
    → PartAgrees (handlers_coding es find c) text n o p r (read_reactions (after_all with_event [] es) (tokens_from text at))
