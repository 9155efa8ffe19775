-- The names passed are in the set.
use Rattle.check_faults.proofs.RowLaws.{Gathered}
use Rattle.draft_form.specs.Entry.{entry_start}
use Rattle.check_faults.proofs.need_set.Given as goal

abbrev pub invariant-loop-node : goal.invariant-loop-node
invariant-loop-node l = Gathered l.d l.i l.but l.n (entry_start l.entry) l.set l.node-index
