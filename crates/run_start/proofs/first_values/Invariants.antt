-- The first i values are read.
use Rattle.lib_base.proofs.Prelude.{◌≡◌, replicate}
use Rattle.run_start.specs.Start.{values_in}
use Rattle.run_start.proofs.first_values.Given as goal

abbrev pub invariant-loop-i : goal.invariant-loop-i
invariant-loop-i l = l.store ≡ values_in l.table (replicate 64 0) l.i
