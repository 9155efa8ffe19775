-- What stands before the handlers, these, who may see it, and the head in front.
use Rattle.lib_base.proofs.Prelude.{◌∙◌, ap, length}
use Rattle.std.proofs.lemmas.Result.{err_from_is_err_and}
use Rattle.sheet_write.specs.Writes.{start_bytes}
use Rattle.sheet_write.proofs.Laws.{fitted_long}
use Rattle.source_names.specs.Known.{meaning_by}
use Rattle.source_body.proofs.State.{state_fails, state_done}
use Rattle.source_body.proofs.state_with.Goals as goal

pub returns-in_err-handlers-clause-state_read : goal.returns-in_err-handlers-clause-state_read
returns-in_err-handlers-clause-state_read c =
    let a = c.args in
    let e = err_from_is_err_and c.from_residual.result c.from_residual.ensures.1 in
    let h = rw (c.in_err-handlers.was, c.put_start-start.ensures.out_after) at c.handlers_at.ensures.handlers_read in
    Prim.rw (e.1, e.2)
    (state_fails a.text.now (meaning_by a.text.now a.places.now a.cursor.sorted a.meanings.now) a.events.now a.cursor.cells a.setting.start a.setting.bits
    a.cursor.at a.cursor.end 0 a.out.now a.out.now a.out.now _ h)

pub returns-clause-state_read : goal.returns-clause-state_read
returns-clause-state_read c =
    let a = c.args in
    let h = rw (c.in_ok-handlers.was, c.put_start-start.ensures.out_after) at c.handlers_at.ensures.handlers_read in
    let l = c.handlers_at.ensures.out_len_unchanged ∙ ap length c.put_start-start.ensures.out_after ∙ fitted_long a.out.now _ (start_bytes a.cursor.cells a.setting.start) in
    rw (c.enclose.ensures, c.tag_of.ensures, c.put_viewers-last.ensures.out_after)
    (state_done a.text.now (meaning_by a.text.now a.places.now a.cursor.sorted a.meanings.now) a.events.now a.cursor.cells a.setting.start a.setting.bits
    a.cursor.at a.cursor.end _ a.out.now _ _ _ _ _ h c.put_start-start.ensures.value l c.requires.growth_bound.1.1.1.1.1 c.put_viewers-last.ensures.value)
