use Rattle.lib_base.proofs.Prelude.{arith}
use Rattle.check_reads.proofs.Filling.{fill_none, fill_one, fill_end}
use Rattle.check_reads.proofs.NameLaws.{passive_row}
use Rattle.check_reads.proofs.fill_passives.Goals as goal

pub loop-i-init : goal.loop-i-init
loop-i-init c = fill_none _ _

pub loop-i-preserved : goal.loop-i-preserved
loop-i-preserved c = fill_one c.loop-i.invariant (omega arith) (passive_row _ _ _ _ _ (omega arith) c.entry_of.ensures c.passive_names.ensures)

pub returns : goal.returns
returns c = fill_end c.loop-i.invariant (omega arith)
