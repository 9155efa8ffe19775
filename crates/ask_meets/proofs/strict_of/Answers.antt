use Rattle.lib_base.proofs.Prelude.{arith}
use Rattle.check_reads.proofs.Gathering.{begin, turn, end}
use Rattle.ask_meets.specs.Strict.{strict_on}
use Rattle.ask_meets.proofs.StrictLaws.{one_handler}
use Rattle.ask_meets.proofs.strict_of.Goals as goal

pub loop-i-init : goal.loop-i-init
loop-i-init c = begin 64 _

pub loop-i-preserved : goal.loop-i-preserved
loop-i-preserved c = turn c.loop-i.invariant (one_handler _ c.args.rows.now _ _ _ _ _ _ _ c.entry_of.ensures c.add_strict-set.ensures)

pub returns : goal.returns
unfolding strict_on
returns c = end c.loop-i.invariant (omega arith)
