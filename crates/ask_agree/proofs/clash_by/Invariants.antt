-- The events that are left decide the whole.
use Rattle.ask_agree.specs.Conflict.{conflict_from, member}
use Rattle.check_reads.proofs.FirstLaws.{Seeking}
use Rattle.ask_agree.proofs.clash_by.Given as goal

abbrev pub invariant-loop-e : goal.invariant-loop-e
invariant-loop-e l = Seeking (conflict_from l.d l.n (member l.writes) (member l.named) l.ev) 0 l.ev l.e
