-- Worked values of W (crate spec_language, Examples), by computation; and what Figure 1's rules ask, each taken from
-- them where they are given: of the last behaviour as of the others, and in the order of an application's arguments.
use Rattle.lib_base.proofs.Prelude.{ℕ, ◌≡◌, refl, List, [], ◌∷◌, get_or, arith}
use Rattle.lib_arith.specs.Exact.{beyond}
use Rattle.lib_arith.specs.Functions.{exact, result_of, over}
use Rattle.spec_language.specs.Syntax.{con, app2, immediate, handler, active, Program}
use Rattle.spec_language.specs.Dependence.{handled, mentions, behaviour_at}
use Rattle.spec_language.specs.Order.{met, find, order, up_to, met_at_once, phase_one}
use Rattle.spec_language.proofs.Examples.{W}
use Rattle.spec_semantics.specs.Rules.{substitute, here, y_con, Steps, Runs, Shows}
use Rattle.spec_semantics.specs.Over.{o_app2, o_update, EventOver}
use Rattle.spec_semantics.specs.Plays.{Plays, next, done}
use Rattle.spec_semantics.specs.Meaning.{at, value, in_turn, first_phase, starts, fresh, with_store}
use Rattle.spec_semantics.specs.Event.{later_phase, event}

-- "A fresh round has start values, passives worked out from them": b2 = 1 + 2 and b0 = 3 + 1
pub fresh_W : fresh W ≡ 4 ∷ 50 ∷ 3 ∷ 1 ∷ 0 ∷ 2 ∷ 3 ∷ []
unfolding exact result_of handled mentions met find order up_to met_at_once phase_one value in_turn first_phase starts fresh
fresh_W = refl

-- "Later handlers are then all evaluated over first-phase values, and take effect together. Passives follow their
-- expression in each phase.": the values of the first phase, and those of the second
pub phases_W : (first_phase W 0 (4 ∷ 50 ∷ 3 ∷ 1 ∷ 0 ∷ 2 ∷ 3 ∷ []) ≡ 5 ∷ 50 ∷ 4 ∷ 2 ∷ 3 ∷ 2 ∷ 3 ∷ []) × (event W 0 (4 ∷ 50 ∷ 3 ∷ 1 ∷ 0 ∷ 2 ∷ 3 ∷ []) ≡ 23 ∷ 45 ∷ 22 ∷ 2 ∷ 3 ∷ 20 ∷ 3 ∷ [])
unfolding exact result_of handled mentions met find order up_to met_at_once phase_one value in_turn first_phase later_phase event
phases_W = (refl, refl)

-- the last of W's seven behaviours makes its step, and is shown
pub last_steps : (S : List ℕ) (P' : Program) → Runs W 0 S P' → Steps W 0 6 (behaviour_at W 6) (get_or S 6 0) (behaviour_at P' 6)
last_steps S P' r = r.each 6 (omega arith)

pub last_shown : (s s' : List ℕ) → Plays W (0 ∷ []) s s' → Shows (with_store W s') 6 (at s' 6)
last_shown s s' (next r l h done) = h 6 (omega arith)

-- M-104: b0 {0 ⇒ 5 / 0} runs over on event 0
abbrev divided : Program
divided = record { priorities = 1 ∷ []; senders = 255 ∷ []; behaviours = active 0 (handler 0 immediate (app2 7 (con 5) (con 0)) ∷ []) ∷ []; viewers = 255 ∷ [] }

pub by_zero : EventOver divided 0
unfolding substitute over exact beyond
by_zero = o_update {x = 0} (omega arith) refl here (o_app2 {u = 5} {v = 0} y_con y_con refl)
