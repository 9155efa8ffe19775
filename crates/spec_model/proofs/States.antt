-- Short names for what an engine and a state say, which the lemmas use; the claim has them written out.
use Rattle.lib_base.proofs.Prelude.{ℕ, ◌≡◌, List}
use Rattle.spec_language.specs.Syntax.{Program}
use Rattle.spec_model.specs.Model.{Arrival, Engine, step, idle, act, State}
use Rattle.spec_model.specs.Claims.{number, in_queue, store_of, count_in, in_force, engine_in}

-- a step called now would answer idle
abbrev pub Idle : Program → Engine → Type 0
Idle p w = (act p step w).answer ≡ idle

abbrev pub number_in : State → ℕ
number_in s = number (engine_in s)

abbrev pub hand_in : State → List Arrival
hand_in s = in_queue (engine_in s)

abbrev pub store_in : State → List ℕ
store_in s = store_of (engine_in s)

-- 01's count of steps, with the program in force
abbrev pub count_now : State → ℕ
count_now s = count_in (in_force s) (engine_in s)
