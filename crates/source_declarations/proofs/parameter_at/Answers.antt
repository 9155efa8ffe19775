-- Too many, no name, a name that is declared twice, and one that is new.
use Rattle.lib_base.proofs.Prelude.{refl}
use Rattle.std.proofs.lemmas.Result.{err_from_is_err_and}
use Rattle.source_declarations.proofs.Parameters.{parameter_crowded, parameter_unnamed, parameter_twice, parameter_new}
use Rattle.source_declarations.proofs.parameter_at.Goals as goal

pub returns-then-count-ge-PARAMETERS-clause-parameter_read : goal.returns-then-count-ge-PARAMETERS-clause-parameter_read
returns-then-count-ge-PARAMETERS-clause-parameter_read c = parameter_crowded _ _ _ _ _ _ c.if-count-ge-PARAMETERS.true refl

pub returns-in_err-place-clause-parameter_read : goal.returns-in_err-place-clause-parameter_read
returns-in_err-place-clause-parameter_read c =
    let e = err_from_is_err_and c.from_residual.result c.from_residual.ensures.1 in
    Prim.rw (e.1, e.2) (parameter_unnamed _ _ _ _ _ _ _ c.if-count-ge-PARAMETERS.false c.name_due.ensures.name_told c.in_err-place.was)

pub returns-then-is_among-clause-parameter_read : goal.returns-then-is_among-clause-parameter_read
returns-then-is_among-clause-parameter_read c =
    parameter_twice _ _ _ _ _ _ _ _ _ _ _ c.if-count-ge-PARAMETERS.false c.name_due.ensures.name_told c.in_ok-place.was c.is_among.ensures c.if-is_among.true refl

pub returns-clause-parameter_read : goal.returns-clause-parameter_read
returns-clause-parameter_read c =
    parameter_new _ _ _ _ _ _ _ _ _ _ _ c.if-count-ge-PARAMETERS.false c.name_due.ensures.name_told c.in_ok-place.was c.is_among.ensures c.if-is_among.false c.default_at.ensures.parameter_read
