use Rattle.lib_base.proofs.Prelude.{rules, arith}
use Rattle.back_table.proofs.TableLaws.{count_small, counting_start, counting_turn, counting_end}
use Rattle.back_table.proofs.count_all.Goals as goal

pub loop-e-init : goal.loop-e-init
loop-e-init c = counting_start _ _

pub count_event-sum-requires : goal.count_event-sum-requires
count_event-sum-requires c = record { long = search rules; few = c.requires.1; inside = c.requires.2 c.loop-e.e (omega arith) }

pub overflow_add-sum : goal.overflow_add-sum
overflow_add-sum c =
    omega (arith, c.loop-e.invariant.small, count_small _ _ _ c.requires.1 (c.requires.2 c.loop-e.e (omega arith)), c.count_event-sum.ensures)

pub loop-e-preserved : goal.loop-e-preserved
loop-e-preserved c = counting_turn c.loop-e.invariant c.requires.1 (c.requires.2 c.loop-e.e (omega arith)) c.count_event-sum.ensures

pub returns : goal.returns
returns c = counting_end c.loop-e.invariant (omega arith)
