use Rattle.lib_base.proofs.Prelude.{arith}
use Rattle.check_reads.proofs.Gathering.{begin_with, turn, end}
use Rattle.check_reads.proofs.add_rows.Goals as goal

pub loop-i-init : goal.loop-i-init
loop-i-init c = begin_with 64 _ _

pub loop-i-preserved : goal.loop-i-preserved
loop-i-preserved c = turn c.loop-i.invariant (λ j b. c.add_row-set.ensures j)

pub returns : goal.returns
returns c = end c.loop-i.invariant (omega arith)
