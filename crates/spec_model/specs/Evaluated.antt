-- The board after a list and after two, an event run alone and a commit's mark, in terms of the model engine and, where
-- not by Figure 1's rules, of the evaluator. These are for lemmas: the claim says them once, by the rules and of the
-- bytes' board (crate refine_lists, Lists.antt), and does not reach this file.
use Rattle.std.specs.Prelude.{ℕ, ◌<◌, Bool, true, false, ◌≡◌, List, [], ◌∷◌, ◌++◌, map}
use Rattle.spec_language.specs.Syntax.{Program}
use Rattle.spec_language.specs.Dependence.{events}
use Rattle.spec_language.specs.Rights.{may_send}
use Rattle.spec_semantics.specs.Meaning.{fresh}
use Rattle.spec_semantics.specs.Event.{event, play}
use Rattle.spec_semantics.specs.OverMeaning.{event_over}
use Rattle.spec_model.specs.Carried.{carried}
use Rattle.spec_model.specs.Model.{Arrival, arrival, step, committed, Turn, call, says, turn}
use Rattle.spec_model.specs.Claims.{number, store_of, copy_back_in, events_of, alone_calls, History, last, then_change}
use Rattle.spec_model.specs.Claims.{IdleIn, after, program_after, engine_after, history_from, history_of, taken_in_by, Replays}
use Rattle.spec_model.specs.Claims.{SameChanges, ApartEach}

-- what a history does to a store, p being in force
unfoldable pub replayed : Program → History → List ℕ → List ℕ
replayed p (last l) s = play p (events_of l) s
replayed p (then_change l q h) s = replayed q h (carried p q (play p (events_of l) s))

-- unless a copy-back is under way, the store is that of the history
abbrev pub BoardOfCommits : Program → List Turn → Type 0
BoardOfCommits p ts = copy_back_in (program_after p ts) (engine_after p ts) ≡ false → store_of (engine_after p ts) ≡ replayed p (history_of p ts) (fresh p)

-- by the rules: they lead to that store, and to no other
abbrev pub BoardByRules : Program → List Turn → Type 0
BoardByRules p ts =
    copy_back_in (program_after p ts) (engine_after p ts) ≡ false
    → Replays p (history_of p ts) (fresh p) (store_of (engine_after p ts)) × ((s : List ℕ) → Replays p (history_of p ts) (fresh p) s → s ≡ store_of (engine_after p ts))

-- two lists on one sheet that take in the same events in the same order: when both are idle, their stores are equal
abbrev pub SameBoard : Program → List Turn → List Turn → Type 0
SameBoard p ts us =
    events_of (taken_in_by p ts) ≡ events_of (taken_in_by p us)
    → SameChanges (history_of p ts) (history_of p us)
    → ApartEach p (history_of p ts)
    → IdleIn (after p ts) → IdleIn (after p us)
    → store_of (engine_after p ts) ≡ store_of (engine_after p us)

-- from an idle round, an event that is taken in and stepped to its commit leaves the store of its meaning
abbrev pub AloneRight : Program → List Turn → Type 0
AloneRight p ts =
    IdleIn (after p ts) → (e who : ℕ) → e < events (program_after p ts) → who < 8 → may_send (program_after p ts) who e ≡ true → number (engine_after p ts) < 1000000
    → (history_from (after p ts) (map call (alone_calls (program_after p ts) e who)) ≡ last (arrival (number (engine_after p ts)) e who ∷ []))
    × (store_of (engine_after p (ts ++ map call (alone_calls (program_after p ts) e who))) ≡ event (program_after p ts) e (store_of (engine_after p ts)))

-- a commit's mark is set exactly if the event's meaning runs over, on the store of the history so far: of a step called
-- after the list
abbrev pub MarkRight : Program → List Turn → Type 0
MarkRight p ts =
    (a : Arrival) (m : Bool) → (turn (call step) (after p ts)).reply ≡ says (committed a m)
    → (a.event < events (program_after p ts)) × (m ≡ event_over (program_after p ts) a.event (replayed p (history_of p ts) (fresh p)))
