-- The events that are left decide the whole.
use Rattle.check_reads.proofs.FirstLaws.{Seeking}
use Rattle.ask_agree_for.specs.Encounter.{encounter_from, priority_on, met_by}
use Rattle.ask_agree_for.proofs.meet_by.Given as goal

abbrev pub invariant-loop-e : goal.invariant-loop-e
invariant-loop-e l = Seeking (encounter_from (priority_on l.d) l.n (met_by l.cone l.writes l.strict) l.ev) 0 l.ev l.e
