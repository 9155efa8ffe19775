use Rattle.lib_base.proofs.Prelude.{arith}
use Rattle.check_reads.proofs.Filling.{fill_none, fill_one, fill_end}
use Rattle.ask_meets.proofs.fill_all_names.Goals as goal

pub loop-i-init : goal.loop-i-init
loop-i-init c = fill_none _ _

pub loop-i-preserved : goal.loop-i-preserved
loop-i-preserved c = fill_one c.loop-i.invariant (omega arith) (λ j b. c.names_of.ensures j (omega arith))

pub returns : goal.returns
returns c = fill_end c.loop-i.invariant (omega arith)
