-- The counts of the events passed are in the sum.
use Rattle.back_table.proofs.TableLaws.{Counting}
use Rattle.back_table.proofs.count_all.Given as goal

abbrev pub invariant-loop-e : goal.invariant-loop-e
invariant-loop-e l = Counting l.draft l.behaviours l.sum l.e
