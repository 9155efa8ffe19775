use Rattle.lib_base.proofs.Prelude.{arith}
use Rattle.ask_meets.proofs.MarkLaws.{name_past}
use Rattle.ask_meets.proofs.name_mark.Goals as goal

pub returns-else-j-lt-BEHAVIOURS : goal.returns-else-j-lt-BEHAVIOURS
returns-else-j-lt-BEHAVIOURS c = name_past c.args.rows.now _ _ c.told-rows c.if-j-b.false (omega arith)
