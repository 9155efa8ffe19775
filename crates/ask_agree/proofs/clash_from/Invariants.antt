-- The events that are left decide the whole.
use Rattle.lib_base.proofs.Prelude.{◌+◌}
use Rattle.ask_agree.specs.Conflict.{conflict_with, member}
use Rattle.check_reads.proofs.FirstLaws.{Seeking}
use Rattle.ask_agree.proofs.clash_from.Given as goal

abbrev pub invariant-loop-f : goal.invariant-loop-f
invariant-loop-f l = Seeking (conflict_with l.d l.n (member l.writes) (member l.named) l.e) (l.e + 1) l.ev l.f
