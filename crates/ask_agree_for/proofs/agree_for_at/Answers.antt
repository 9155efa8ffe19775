use Rattle.lib_base.proofs.Prelude.{◌∙◌}
use Rattle.draft_form.proofs.DraftLaws.{draft_events, draft_behaviours}
use Rattle.check_faults.proofs.DraftChecks.{draft_inside}
use Rattle.back_compile.proofs.Judging.{judged_number, turned_some}
use Rattle.ask_agree_for.proofs.EncounterLaws.{passed, refused}
use Rattle.ask_agree_for.proofs.agree_for_at.Goals as goal

pub agree_for_of-requires : goal.agree_for_of-requires
agree_for_of-requires c =
    let f = c.in-Ok.ensures.finding.drafts.draft in
    (draft_events f, draft_behaviours f, draft_inside f)

pub returns-in-Err : goal.returns-in-Err
returns-in-Err c =
    let j = c.in-Err.ensures in
    let q = c.from.ensures ∙ c.number.ensures in
    refused _ _ _ _ (judged_number _ _ _ _ j q) (turned_some _ _ _ _ j q)

pub returns-in-Ok : goal.returns-in-Ok
returns-in-Ok c = passed _ _ _ _ _ _ _ c.in-Ok.ensures.finding c.agree_for_of.ensures
