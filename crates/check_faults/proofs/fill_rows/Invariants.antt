-- The rows passed are filled.
use Rattle.check_faults.proofs.RowLaws.{Filled}
use Rattle.check_faults.proofs.fill_rows.Given as goal

abbrev pub invariant-loop-i : goal.invariant-loop-i
invariant-loop-i l = Filled l.d l.e l.n l.rows l.i
