-- `=` and the value behind it.
use Rattle.std.proofs.lemmas.Result.{err_from_is_err_and}
use Rattle.source_body.proofs.Pieces.{start_missing, start_found}
use Rattle.source_body.proofs.start_due.Goals as goal

pub returns-in_err-equals-clause-due_read : goal.returns-in_err-equals-clause-due_read
returns-in_err-equals-clause-due_read c =
    let e = err_from_is_err_and c.from_residual.result c.from_residual.ensures.1 in
    let h = rw c.in_err-equals.was at c.sign_due.ensures.sign_told in
    Prim.rw (e.1, e.2) (start_missing c.args.text.now c.args.at _ h)

pub returns-clause-due_read : goal.returns-clause-due_read
returns-clause-due_read c =
    let h = rw c.in_ok-equals.was at c.sign_due.ensures.sign_told in
    start_found c.args.text.now c.args.at _ _ c.value_at.result h c.value_at.ensures.value_told
