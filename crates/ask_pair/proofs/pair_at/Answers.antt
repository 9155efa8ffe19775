use Rattle.lib_base.proofs.Prelude.{◌∙◌}
use Rattle.draft_form.proofs.DraftLaws.{draft_events, draft_behaviours}
use Rattle.check_faults.proofs.DraftChecks.{draft_inside}
use Rattle.back_compile.proofs.Judging.{judged_number, turned_some}
use Rattle.ask_pair.proofs.PairLaws.{passed, refused}
use Rattle.ask_pair.proofs.pair_at.Goals as goal

pub pair_for-requires : goal.pair_for-requires
pair_for-requires c =
    let f = c.in-Ok.ensures.finding.drafts.draft in
    (draft_events f, draft_behaviours f, draft_inside f)

pub returns-in-Err : goal.returns-in-Err
returns-in-Err c =
    let j = c.in-Err.ensures in
    let q = c.from.ensures ∙ c.number.ensures in
    refused _ _ _ _ _ (judged_number _ _ _ _ j q) (turned_some _ _ _ _ j q)

pub returns-in-Ok : goal.returns-in-Ok
returns-in-Ok c = passed _ _ _ _ _ _ _ _ c.in-Ok.ensures.finding c.pair_for.ensures
