-- With a `-` the number after it, without one the number here.
use Rattle.std.proofs.lemmas.Result.{err_from_is_err_and}
use Rattle.source_due.proofs.Laws.{plain_value, minus_bad, minus_value}
use Rattle.source_due.proofs.value_of.Goals as goal

pub returns-in_default-clause-value_told : goal.returns-in_default-clause-value_told
returns-in_default-clause-value_told c =
    plain_value _ _ _ c.number_of.result _ c.in_default.is c.sign_of.ensures.sign_told c.number_of.ensures.number_told

pub returns-in_err-value-clause-value_told : goal.returns-in_err-value-clause-value_told
returns-in_err-value-clause-value_told c =
    let p = err_from_is_err_and c.from_residual.result c.from_residual.ensures.1 in
    Prim.rw (p.1, p.2) (minus_bad _ _ _ _ c.in-Ok.is c.sign_of.ensures.sign_told c.number_due.result _ c.in_err-value.was c.number_due.ensures.number_told)

pub returns-clause-value_told : goal.returns-clause-value_told
returns-clause-value_told c =
    minus_value _ _ _ _ c.in-Ok.is c.sign_of.ensures.sign_told c.number_due.result _ _ c.in_ok-value.was c.number_due.ensures.number_told c.negated.ensures
