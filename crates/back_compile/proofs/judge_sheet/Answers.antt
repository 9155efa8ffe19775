-- Each answer rests on what was found up to there: the sheet read, its draft filled in, and the checks passed.
use Rattle.lib_base.proofs.Prelude.{◌∙◌, sym}
use Rattle.std.proofs.lemmas.Result.{err_from_is_err_and}
use Rattle.draft_form.proofs.DraftLaws.{draft_events, draft_behaviours}
use Rattle.check_faults.proofs.DraftChecks.{draft_inside}
use Rattle.back_compile.proofs.Judging.{long_falls, read_as, read_falls, read_few, filled}
use Rattle.back_compile.proofs.Judging.{unknown_falls, lacking_falls, circular_turns, overlong_falls, all_passes}
use Rattle.back_compile.proofs.judge_sheet.Goals as goal

pub returns-then-sheet-gt-SHEET_BYTES : goal.returns-then-sheet-gt-SHEET_BYTES
returns-then-sheet-gt-SHEET_BYTES c = record { finding = long_falls _ _ c.if-sheet-gt-SHEET_BYTES.true }

pub returns-in_err-counts : goal.returns-in_err-counts
returns-in_err-counts c =
    let p = err_from_is_err_and c.from_residual.result c.from_residual.ensures.1 in
    rw (p.1, p.2)
    (record { finding = read_falls c.args.sheet.now c.args.params.now c.type_inv.sheet c.if-sheet-gt-SHEET_BYTES.false (read_as _ c.in_err-counts.was c.requires c.read_program.ensures) })

pub lacks_param-lacking-requires : goal.lacks_param-lacking-requires
lacks_param-lacking-requires c = read_few c.args.sheet.now c.args.params.now c.type_inv.sheet c.if-sheet-gt-SHEET_BYTES.false c.type_inv.params (read_as _ c.in_ok-counts.was c.requires c.read_program.ensures)

pub fill_draft-requires : goal.fill_draft-requires
fill_draft-requires c = read_few c.args.sheet.now c.args.params.now c.type_inv.sheet c.if-sheet-gt-SHEET_BYTES.false c.type_inv.params (read_as _ c.in_ok-counts.was c.requires c.read_program.ensures)

pub names_known-requires : goal.names_known-requires
names_known-requires c = read_few c.args.sheet.now c.args.params.now c.type_inv.sheet c.if-sheet-gt-SHEET_BYTES.false c.type_inv.params (read_as _ c.in_ok-counts.was c.requires c.read_program.ensures)

pub returns-then-not-names_known : goal.returns-then-not-names_known
returns-then-not-names_known c =
    let names = rw c.fill_draft.ensures at (sym c.names_known.ensures ∙ c.if-not-names_known.true) in
    record { finding = unknown_falls c.args.sheet.now c.args.params.now c.type_inv.sheet c.if-sheet-gt-SHEET_BYTES.false c.type_inv.params (read_as _ c.in_ok-counts.was c.requires c.read_program.ensures) c.lacks_param-lacking.ensures names }

pub returns-then-lacking : goal.returns-then-lacking
returns-then-lacking c =
    let names = rw c.fill_draft.ensures at (sym c.names_known.ensures ∙ c.if-not-names_known.false) in
    record { finding = lacking_falls c.args.sheet.now c.args.params.now c.type_inv.sheet c.if-sheet-gt-SHEET_BYTES.false c.type_inv.params (read_as _ c.in_ok-counts.was c.requires c.read_program.ensures) c.lacks_param-lacking.ensures c.if-lacking.true names }

pub has_cycle-requires : goal.has_cycle-requires
has_cycle-requires c =
    let f = filled c.args.sheet.now c.args.params.now c.type_inv.sheet c.if-sheet-gt-SHEET_BYTES.false c.type_inv.params (read_as _ c.in_ok-counts.was c.requires c.read_program.ensures) in
    rw c.fill_draft.ensures (draft_events f, draft_behaviours f, draft_inside f)

pub returns-then-has_cycle : goal.returns-then-has_cycle
returns-then-has_cycle c =
    let names = rw c.fill_draft.ensures at (sym c.names_known.ensures ∙ c.if-not-names_known.false) in
    let cycle = rw c.fill_draft.ensures at (sym c.has_cycle.ensures ∙ c.if-has_cycle.true) in
    record { finding = rw c.fill_draft.ensures (circular_turns c.args.sheet.now c.args.params.now c.type_inv.sheet c.if-sheet-gt-SHEET_BYTES.false c.type_inv.params (read_as _ c.in_ok-counts.was c.requires c.read_program.ensures) c.lacks_param-lacking.ensures c.if-lacking.false names cycle) }

pub count_all-requires : goal.count_all-requires
count_all-requires c =
    let f = filled c.args.sheet.now c.args.params.now c.type_inv.sheet c.if-sheet-gt-SHEET_BYTES.false c.type_inv.params (read_as _ c.in_ok-counts.was c.requires c.read_program.ensures) in
    rw c.fill_draft.ensures (draft_events f, draft_behaviours f, draft_inside f)

pub returns-then-count_all-gt-INSTRUCTIONS : goal.returns-then-count_all-gt-INSTRUCTIONS
returns-then-count_all-gt-INSTRUCTIONS c =
    let names = rw c.fill_draft.ensures at (sym c.names_known.ensures ∙ c.if-not-names_known.false) in
    let cycle = rw c.fill_draft.ensures at (sym c.has_cycle.ensures ∙ c.if-has_cycle.false) in
    let over = rw c.fill_draft.ensures at (rw c.count_all.ensures at c.if-count_all-gt-INSTRUCTIONS.true) in
    record { finding = overlong_falls c.args.sheet.now c.args.params.now c.type_inv.sheet c.if-sheet-gt-SHEET_BYTES.false c.type_inv.params (read_as _ c.in_ok-counts.was c.requires c.read_program.ensures) c.lacks_param-lacking.ensures c.if-lacking.false names cycle over }

pub returns : goal.returns
returns c =
    let names = rw c.fill_draft.ensures at (sym c.names_known.ensures ∙ c.if-not-names_known.false) in
    let cycle = rw c.fill_draft.ensures at (sym c.has_cycle.ensures ∙ c.if-has_cycle.false) in
    let short = rw c.fill_draft.ensures at (rw c.count_all.ensures at c.if-count_all-gt-INSTRUCTIONS.false) in
    record { finding = rw c.fill_draft.ensures (all_passes c.args.sheet.now c.args.params.now c.type_inv.sheet c.if-sheet-gt-SHEET_BYTES.false c.type_inv.params (read_as _ c.in_ok-counts.was c.requires c.read_program.ensures) c.lacks_param-lacking.ensures c.if-lacking.false names cycle short) }
