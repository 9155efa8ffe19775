-- The records of the events passed are written, and where the next one's code begins.
use Rattle.back_table.proofs.TableLaws.{Recording}
use Rattle.back_table.proofs.write_records.Given as goal

abbrev pub invariant-loop-e : goal.invariant-loop-e
invariant-loop-e l = Recording l.draft l.behaviours l.fn.out.table l.fn.out.place l.out.table l.out.place l.start l.e
