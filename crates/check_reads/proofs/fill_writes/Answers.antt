use Rattle.lib_base.proofs.Prelude.{arith}
use Rattle.check_reads.proofs.Filling.{fill_none, fill_one, fill_end}
use Rattle.check_reads.proofs.fill_writes.Goals as goal

pub loop-e-init : goal.loop-e-init
loop-e-init c = fill_none _ _

pub loop-e-preserved : goal.loop-e-preserved
loop-e-preserved c = fill_one c.loop-e.invariant (omega arith) c.writes_of.ensures

pub returns : goal.returns
returns c = fill_end c.loop-e.invariant (omega arith)
