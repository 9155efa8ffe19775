-- By what stands there: no name, one that is taken, or a new one.
use Rattle.lib_base.proofs.Prelude.{◌∙◌, sym, refl}
use Rattle.std.proofs.lemmas.Result.{err_from_is_err_and}
use Rattle.source_behaviours.proofs.Pieces.{name_missing, name_taken, name_new}
use Rattle.source_behaviours.proofs.name_at.Goals as goal

pub returns-in_err-name-clause-due_read : goal.returns-in_err-name-clause-due_read
returns-in_err-name-clause-due_read c =
    let e = err_from_is_err_and c.from_residual.result c.from_residual.ensures.1 in
    let h = rw c.in_err-name.was at c.name_due.ensures.name_told in
    Prim.rw (e.1, e.2) (name_missing c.args.text.now c.args.names.now c.args.count c.args.at _ h)

pub returns-then-is_among-clause-due_read : goal.returns-then-is_among-clause-due_read
returns-then-is_among-clause-due_read c =
    let h = rw c.in_ok-name.was at c.name_due.ensures.name_told in
    name_taken c.args.text.now c.args.names.now c.args.count c.args.at _ _ h _ (sym c.is_among.ensures ∙ c.if-is_among.true) refl

pub returns-clause-due_read : goal.returns-clause-due_read
returns-clause-due_read c =
    let h = rw c.in_ok-name.was at c.name_due.ensures.name_told in
    name_new c.args.text.now c.args.names.now c.args.count c.args.at _ _ h c.in_ok-name.name.number (sym c.is_among.ensures ∙ c.if-is_among.false)
