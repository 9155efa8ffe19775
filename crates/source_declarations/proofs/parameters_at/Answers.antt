-- What each return comes to, and that a turn keeps what the loop keeps.
use Rattle.std.proofs.lemmas.Result.{err_from_is_err_and}
use Rattle.source_declarations.proofs.Parameters.{parameters_start, parameters_stop, parameters_fault, parameters_onward, parameters_turn}
use Rattle.source_declarations.proofs.parameters_at.Goals as goal

pub loop-word-init : goal.loop-word-init
loop-word-init c = parameters_start _ _ _ c.requires.at_in_bounds c.requires.names_len

pub returns-clause-parameters_read : goal.returns-clause-parameters_read
returns-clause-parameters_read c = parameters_stop _ _ c.loop-word.invariant c.sign_due.ensures.sign_told c.in_default.is

pub returns-in_err-parameter-clause-parameters_read : goal.returns-in_err-parameter-clause-parameters_read
returns-in_err-parameter-clause-parameters_read c =
    let e = err_from_is_err_and c.from_residual.result c.from_residual.ensures.1 in
    Prim.rw (e.1, e.2)
    (parameters_fault _ _ _ _ _ _ c.loop-word.invariant c.sign_due.ensures.sign_told c.in-Ok.is c.parameter_at.ensures.parameter_read c.in_err-parameter.was)

pub loop-word-preserved : goal.loop-word-preserved
loop-word-preserved c =
    let turn = c.loop-word.invariant in
    let further = parameters_onward _ _ _ _ _ _ _ _ turn c.sign_due.ensures.due_within c.in-Ok.is c.parameter_at.ensures.parameter_within c.in_ok-parameter.was in
    parameters_turn _ _ _ _ _ _ _ _ turn c.sign_due.ensures.sign_told c.in-Ok.is c.parameter_at.ensures.parameter_read c.in_ok-parameter.was further
