use Rattle.lib_base.proofs.Prelude.{arith}
use Rattle.source_describe.proofs.Turns.{parametric_start, parametric_on, parametric_end}
use Rattle.source_describe.proofs.put_parameters.Goals as goal

pub loop-i-init : goal.loop-i-init
loop-i-init c = parametric_start _ _ c.requires.0

pub loop-i-preserved : goal.loop-i-preserved
loop-i-preserved c = parametric_on c.loop-i.invariant c.loop-i-test.true c.write_named.ensures

pub returns : goal.returns
returns c = parametric_end c.loop-i.invariant (omega arith)
