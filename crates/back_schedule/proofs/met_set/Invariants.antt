-- Of the behaviours passed, those met at once are in the set.
use Rattle.back_schedule.proofs.OrderingLaws.{Marking}
use Rattle.back_schedule.proofs.met_set.Given as goal

abbrev pub invariant-loop-i : goal.invariant-loop-i
invariant-loop-i l = Marking l.draft l.event l.set l.i
