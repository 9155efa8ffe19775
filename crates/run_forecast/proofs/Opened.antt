-- The steps to idle, test by test.
use Rattle.lib_base.proofs.Prelude.{ℕ, ◌+◌, ◌*◌, ◌≡◌, refl, List, eqb}
use Rattle.lib_base.specs.Basics.{pick}
use Rattle.spec_language.specs.Answers.{told}
use Rattle.spec_language.specs.Refusals.{foreign}
use Rattle.format_layout.specs.Layout.{event_count, waiting_count, running_flag}
use Rattle.format_layout.specs.Foreign.{ours}
use Rattle.run_forecast.specs.Steps.{steps_in, longest_in}
use Rattle.run_forecast.specs.Forecast.{bound, forecast_with, forecast_in, forecast_on}

pub forecast_opened : (t l : List ℕ) → forecast_on t l
    ≡ pick (ours t l)
    (told (pick (eqb (running_flag l) 0) (steps_in t l (waiting_count l)) ((waiting_count l + 1 + 1) * (longest_in t (event_count t) + 1))))
    foreign
unfolding forecast_on forecast_in forecast_with bound
forecast_opened t l = refl
