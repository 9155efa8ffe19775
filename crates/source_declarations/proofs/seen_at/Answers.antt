-- Nothing is said, `by` is missing, and players are said.
use Rattle.std.proofs.lemmas.Result.{err_from_is_err_and}
use Rattle.source_declarations.proofs.Players.{seen_unsaid, seen_broken, seen_said}
use Rattle.source_declarations.proofs.seen_at.Goals as goal

pub returns-in_default-clause-rights_read : goal.returns-in_default-clause-rights_read
returns-in_default-clause-rights_read c = seen_unsaid _ _ _ _ c.sign_due.ensures.sign_told c.in_default.is

pub returns-in_err-by-clause-rights_read : goal.returns-in_err-by-clause-rights_read
returns-in_err-by-clause-rights_read c =
    let e = err_from_is_err_and c.from_residual.result c.from_residual.ensures.1 in
    Prim.rw (e.1, e.2) (seen_broken _ _ _ _ _ _ _ _ c.sign_due.ensures.sign_told c.in-Ok.is c.sign_due-2.ensures.sign_told c.in_err-by.was)

pub returns-clause-rights_read : goal.returns-clause-rights_read
returns-clause-rights_read c =
    seen_said _ _ _ _ _ _ _ _ _ _ _ c.sign_due.ensures.sign_told c.in-Ok.is c.sign_due-2.ensures.sign_told c.in_ok-by.was c.players_at.ensures.rights_read
