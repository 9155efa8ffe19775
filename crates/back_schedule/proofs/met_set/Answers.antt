use Rattle.lib_base.proofs.Prelude.{arith}
use Rattle.back_schedule.proofs.OrderingLaws.{marking_start, marking_turn, marking_end}
use Rattle.back_schedule.proofs.met_set.Goals as goal

pub loop-i-init : goal.loop-i-init
loop-i-init c = marking_start _ _

pub loop-i-preserved : goal.loop-i-preserved
loop-i-preserved c = marking_turn c.loop-i.invariant c.entry_of.ensures c.add_met-set.ensures

pub returns : goal.returns
returns c = marking_end c.loop-i.invariant (omega arith)
