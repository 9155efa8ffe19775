-- One value more is read.
use Rattle.lib_base.proofs.Prelude.{◌+◌, refl, add-one}
use Rattle.run_start.specs.Start.{values_in}
use Rattle.run_start.proofs.first_values.Goals as goal

pub loop-i-init : goal.loop-i-init
unfolding values_in
loop-i-init c = refl

pub loop-i-preserved : goal.loop-i-preserved
unfolding values_in
loop-i-preserved c = rw (add-one c.loop-i.i, ← c.loop-i.invariant, c.get_word.ensures)
