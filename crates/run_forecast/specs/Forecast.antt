-- What forecast reads from the table's and the round's bytes, for all bytes (layout: crate format_layout). 02, M-100:
-- the steps to idle while nothing runs, else 01's bound. A function that branches takes plain numbers; one that reads
-- calls it.
use Rattle.std.specs.Prelude.{ℕ, ◌+◌, ◌*◌, List, eqb}
use Rattle.lib_base.specs.Basics.{pick}
use Rattle.spec_language.specs.Refusals as refusals
use Rattle.format_layout.specs.Layout.{event_count, waiting_count, running_flag}
use Rattle.format_layout.specs.Foreign.{ours}
use Rattle.run_forecast.specs.Steps.{steps_in, longest_in}

-- ---- nothing runs: "the sum, over the hand, of each event's instruction count plus one", over the first n waiting

-- ---- something runs: "(k + 1) × (L + 1) steps .., k being the number in hand .., L the longest event's instructions"

-- n wait beside the running one
unfoldable pub bound : ℕ → ℕ → ℕ
bound n longest = (n + 1 + 1) * (longest + 1)

-- ---- both. The answer is the refusal's number, 14 only, or 2 ^ 32 and the steps.

-- n wait; f: one runs
unfoldable pub forecast_with : List ℕ → List ℕ → ℕ → ℕ → ℕ
forecast_with t l n f = pick (eqb f 0) (steps_in t l n) (bound n (longest_in t (event_count t)))

unfoldable pub forecast_in : List ℕ → List ℕ → ℕ
forecast_in t l = forecast_with t l (waiting_count l) (running_flag l)

unfoldable pub forecast_on : List ℕ → List ℕ → ℕ
forecast_on t l = pick (ours t l) (4294967296 + forecast_in t l) refusals.foreign
