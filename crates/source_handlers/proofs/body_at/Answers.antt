-- Stage by stage: the phase, the formula, and the head in front of them.
use Rattle.lib_base.proofs.Prelude.{◌∙◌, arith}
use Rattle.std.proofs.lemmas.Result.{err_from_is_err_and}
use Rattle.source_names.specs.Known.{meaning_by}
use Rattle.source_handlers.proofs.Body.{phase_refused, formula_refused, handler_read}
use Rattle.source_handlers.proofs.body_at.Goals as goal

pub returns-in_err-phase-clause-handler_read : goal.returns-in_err-phase-clause-handler_read
returns-in_err-phase-clause-handler_read c =
    let a = c.args in
    let e = err_from_is_err_and c.from_residual.result c.from_residual.ensures.1 in
    let h = rw c.in_err-phase.was at c.phase_due.ensures.due_read in
    Prim.rw (e.1, e.2)
    (phase_refused a.text.now (meaning_by a.text.now a.places.now a.cursor.sorted a.meanings.now) a.cursor.cells a.e a.cursor.at a.cursor.end a.out.now a.out.now _ h)

pub returns-in_err-formula-clause-handler_read : goal.returns-in_err-formula-clause-handler_read
returns-in_err-formula-clause-handler_read c =
    let a = c.args in
    let e = err_from_is_err_and c.from_residual-in_err-formula.result c.from_residual-in_err-formula.ensures.1 in
    let h = rw c.in_ok-phase.was at c.phase_due.ensures.due_read in
    let g = rw c.in_err-formula.was at c.formula_at.ensures.formula_read in
    Prim.rw (e.1, e.2)
    (formula_refused a.text.now (meaning_by a.text.now a.places.now a.cursor.sorted a.meanings.now) a.cursor.cells a.e a.cursor.at a.cursor.end a.out.now
    0 _ _ h 0 a.out.now a.out.now a.out.now _ g)

pub returns-clause-handler_read : goal.returns-clause-handler_read
returns-clause-handler_read c =
    let a = c.args in
    let h = rw c.in_ok-phase.was at c.phase_due.ensures.due_read in
    let i = rw c.in_ok-phase.was at c.phase_due.ensures.phase_within in
    let g = rw (c.in_ok-formula.was, c.put_handler.ensures) at c.formula_at.ensures.formula_read in
    let k = rw c.in_ok-formula.was at c.formula_at.ensures.formula_within in
    let l = c.formula_at.ensures.out_len_unchanged ∙ c.put_handler.auto.out in
    rw c.enclose.ensures
    (handler_read a.text.now (meaning_by a.text.now a.places.now a.cursor.sorted a.meanings.now) a.cursor.cells a.e a.cursor.at a.cursor.end a.out.now
    0 _ _ h _ _ _ _ _ g (omega arith) c.requires.e_lt_event_limit.1 l)
