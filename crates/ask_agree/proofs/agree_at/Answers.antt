use Rattle.lib_base.proofs.Prelude.{◌∙◌}
use Rattle.draft_form.proofs.DraftLaws.{draft_events, draft_behaviours}
use Rattle.check_faults.proofs.DraftChecks.{draft_inside}
use Rattle.back_compile.proofs.Judging.{judged_number, turned_some}
use Rattle.ask_agree.proofs.ConflictLaws.{agree_passed, agree_refused}
use Rattle.ask_agree.proofs.agree_at.Goals as goal

pub clash_in-requires : goal.clash_in-requires
clash_in-requires c =
    let f = c.in-Ok.ensures.finding.drafts.draft in
    (draft_events f, draft_behaviours f, draft_inside f)

pub returns-in-Err : goal.returns-in-Err
returns-in-Err c =
    let j = c.in-Err.ensures in
    let q = c.from.ensures ∙ c.number.ensures in
    agree_refused _ _ _ (judged_number _ _ _ _ j q) (turned_some _ _ _ _ j q)

pub returns-in-Ok : goal.returns-in-Ok
returns-in-Ok c = c.clash_number.ensures ∙ c.clash_in.ensures ∙ agree_passed _ _ _ _ _ c.in-Ok.ensures.finding
