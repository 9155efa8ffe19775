use Rattle.lib_base.proofs.Prelude.{◌∙◌, sym, arith}
use Rattle.check_reads.proofs.FirstLaws.{seek, seek_on, seek_stop, seek_end}
use Rattle.ask_agree.proofs.ConflictLaws.{packed_some}
use Rattle.ask_agree_for.specs.Encounter.{encounter_from}
use Rattle.ask_agree_for.proofs.meet_from.Goals as goal

pub loop-f-init : goal.loop-f-init
loop-f-init c = seek _ _ _

pub returns-in-Some : goal.returns-in-Some
unfolding encounter_from
returns-in-Some c = c.in-Some.ensures ∙ seek_stop c.loop-f.invariant (omega arith) (λ z. packed_some _ _ _ (c.in-Some.ensures ∙ z))

pub loop-f-preserved : goal.loop-f-preserved
loop-f-preserved c = seek_on c.loop-f.invariant (omega arith) (sym c.in_default.ensures)

pub returns : goal.returns
unfolding encounter_from
returns c = seek_end c.loop-f.invariant (omega arith)
