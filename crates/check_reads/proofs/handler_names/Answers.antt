use Rattle.lib_base.proofs.Prelude.{arith}
use Rattle.check_reads.specs.Sets.{handlers_name}
use Rattle.check_reads.proofs.Gathering.{begin, turn, end}
use Rattle.check_reads.proofs.NameLaws.{handler_joins}
use Rattle.check_reads.proofs.handler_names.Goals as goal

pub loop-i-init : goal.loop-i-init
loop-i-init c = begin 64 _

pub loop-i-preserved : goal.loop-i-preserved
loop-i-preserved c = turn c.loop-i.invariant (handler_joins _ _ _ _ _ c.entry_of.ensures c.add_names-set.ensures)

pub returns : goal.returns
unfolding handlers_name
returns c = end c.loop-i.invariant (omega arith)
