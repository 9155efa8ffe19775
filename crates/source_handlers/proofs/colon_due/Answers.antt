-- The colon is found, or a fault at its place.
use Rattle.std.proofs.lemmas.Result.{err_from_is_err_and}
use Rattle.source_handlers.proofs.Events.{colon_fails, colon_found}
use Rattle.source_handlers.proofs.colon_due.Goals as goal

pub returns-in_err-colon-clause-colon_read : goal.returns-in_err-colon-clause-colon_read
returns-in_err-colon-clause-colon_read c =
    let e = err_from_is_err_and c.from_residual.result c.from_residual.ensures.1 in
    let h = rw c.in_err-colon.was at c.sign_due.ensures.sign_told in
    Prim.rw (e.1, e.2) (colon_fails _ _ _ _ h)

pub returns-clause-colon_read : goal.returns-clause-colon_read
returns-clause-colon_read c =
    let h = rw c.in_ok-colon.was at c.sign_due.ensures.sign_told in
    colon_found _ _ _ _ _ h
