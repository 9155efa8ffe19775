use Rattle.lib_base.proofs.Prelude.{refl, add-one}
use Rattle.back_fresh.specs.Evaluate.{starts_on}
use Rattle.back_fresh.proofs.start_values.Goals as goal

pub loop-i-init : goal.loop-i-init
unfolding starts_on
loop-i-init c = refl

pub loop-i-preserved : goal.loop-i-preserved
unfolding starts_on
loop-i-preserved c = rw (add-one c.loop-i.i, c.loop-i.invariant)
