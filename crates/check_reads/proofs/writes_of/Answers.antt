use Rattle.lib_base.proofs.Prelude.{◌∙◌, arith}
use Rattle.check_reads.specs.Sets.{writes_on}
use Rattle.check_reads.proofs.Gathering.{begin, turn, end, any_own}
use Rattle.check_reads.proofs.NameLaws.{writer_joins}
use Rattle.check_reads.proofs.writes_of.Goals as goal

pub loop-i-init : goal.loop-i-init
loop-i-init c = begin 64 _

pub loop-i-preserved : goal.loop-i-preserved
loop-i-preserved c = turn c.loop-i.invariant (writer_joins _ _ _ _ _ c.entry_of.ensures c.add_writer-set.ensures)

pub returns : goal.returns
returns c j b = end c.loop-i.invariant (omega arith) j (omega arith) ∙ any_own _ (writes_on _ _) j b
