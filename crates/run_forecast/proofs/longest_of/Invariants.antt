-- The longest of the first events.
use Rattle.lib_base.proofs.Prelude.{◌≡◌, ◌≤◌}
use Rattle.run_forecast.specs.Steps.{longest_in}
use Rattle.run_forecast.proofs.longest_of.Given as goal

abbrev pub invariant-loop-event : goal.invariant-loop-event
invariant-loop-event l = (l.longest ≡ longest_in l.table l.event) × (l.longest ≤ 4096)
