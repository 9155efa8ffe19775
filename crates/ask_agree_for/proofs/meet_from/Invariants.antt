-- The events that are left decide the whole.
use Rattle.lib_base.proofs.Prelude.{◌+◌}
use Rattle.check_reads.proofs.FirstLaws.{Seeking}
use Rattle.ask_agree_for.specs.Encounter.{encounter_with, priority_on, met_by}
use Rattle.ask_agree_for.proofs.meet_from.Given as goal

abbrev pub invariant-loop-f : goal.invariant-loop-f
invariant-loop-f l = Seeking (encounter_with (priority_on l.d) l.n (met_by l.cone l.writes l.strict) l.e) (l.e + 1) l.ev l.f
