-- `]` is found, or a fault at its place.
use Rattle.std.proofs.lemmas.Result.{err_from_is_err_and}
use Rattle.source_behaviours.proofs.Pieces.{closed_fails, closed_found}
use Rattle.source_behaviours.proofs.closed_at.Goals as goal

pub returns-in_err-bracket-clause-due_read : goal.returns-in_err-bracket-clause-due_read
returns-in_err-bracket-clause-due_read c =
    let e = err_from_is_err_and c.from_residual.result c.from_residual.ensures.1 in
    let h = rw c.in_err-bracket.was at c.sign_due.ensures.sign_told in
    Prim.rw (e.1, e.2) (closed_fails c.args.text.now c.args.at c.args.v _ h)

pub returns-clause-due_read : goal.returns-clause-due_read
returns-clause-due_read c =
    let h = rw c.in_ok-bracket.was at c.sign_due.ensures.sign_told in
    closed_found c.args.text.now c.args.at _ c.args.p c.args.v _ h
