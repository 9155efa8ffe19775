-- The steps of the first i waiting, at most 4,097 for each.
use Rattle.lib_base.proofs.Prelude.{◌≡◌, ◌≤◌, ◌*◌}
use Rattle.run_forecast.specs.Steps.{steps_in}
use Rattle.run_forecast.proofs.steps_in.Given as goal

abbrev pub invariant-loop-i : goal.invariant-loop-i
invariant-loop-i l = (l.steps ≡ steps_in l.table l.round l.i) × (l.steps ≤ l.i * 4097)
