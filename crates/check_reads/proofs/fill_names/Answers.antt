use Rattle.lib_base.proofs.Prelude.{arith}
use Rattle.check_reads.proofs.Filling.{fill_none, fill_one, fill_end}
use Rattle.check_reads.proofs.Named.{named_is}
use Rattle.check_reads.proofs.fill_names.Goals as goal

pub loop-e-init : goal.loop-e-init
loop-e-init c = fill_none _ _

pub loop-e-preserved : goal.loop-e-preserved
loop-e-preserved c = fill_one c.loop-e.invariant (omega arith) (named_is _ _ _ _ c.args.rows.now _ _ c.requires.1 c.requires.3 c.handler_names.ensures c.add_rows.ensures)

pub returns : goal.returns
returns c = fill_end c.loop-e.invariant (omega arith)
