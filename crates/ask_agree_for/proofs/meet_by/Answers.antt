use Rattle.lib_base.proofs.Prelude.{◌∙◌, sym, arith}
use Rattle.check_reads.proofs.FirstLaws.{seek, seek_on, seek_stop, seek_end}
use Rattle.ask_agree.proofs.ConflictLaws.{packed_some}
use Rattle.ask_agree_for.specs.Encounter.{encounter_by}
use Rattle.ask_agree_for.proofs.meet_by.Goals as goal

pub loop-e-init : goal.loop-e-init
loop-e-init c = seek _ _ _

pub returns-in-Some : goal.returns-in-Some
unfolding encounter_by
returns-in-Some c = c.in-Some.ensures ∙ seek_stop c.loop-e.invariant (omega arith) (λ z. packed_some _ _ _ (c.in-Some.ensures ∙ z))

pub loop-e-preserved : goal.loop-e-preserved
loop-e-preserved c = seek_on c.loop-e.invariant (omega arith) (sym c.in_default.ensures)

pub returns : goal.returns
unfolding encounter_by
returns c = seek_end c.loop-e.invariant (omega arith)
