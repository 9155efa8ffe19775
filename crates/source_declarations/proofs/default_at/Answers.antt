-- No value, one at fault, and one that is read.
use Rattle.std.proofs.lemmas.Result.{err_from_is_err_and}
use Rattle.source_declarations.proofs.Parameters.{default_none, default_bad, default_good}
use Rattle.source_declarations.proofs.default_at.Goals as goal

pub returns-in_default-clause-parameter_read : goal.returns-in_default-clause-parameter_read
returns-in_default-clause-parameter_read c = default_none _ _ _ _ _ c.sign_due.ensures.sign_told c.in_default.is

pub returns-in_err-value-clause-parameter_read : goal.returns-in_err-value-clause-parameter_read
returns-in_err-value-clause-parameter_read c =
    let e = err_from_is_err_and c.from_residual.result c.from_residual.ensures.1 in
    Prim.rw (e.1, e.2) (default_bad _ _ _ _ _ _ _ _ _ c.sign_due.ensures.sign_told c.in-Ok.is c.value_at.ensures.value_told c.in_err-value.was)

pub returns-clause-parameter_read : goal.returns-clause-parameter_read
returns-clause-parameter_read c =
    default_good _ _ _ _ _ _ _ _ _ _ _ c.sign_due.ensures.sign_told c.in-Ok.is c.value_at.ensures.value_told c.in_ok-value.was
