-- By the two cases of a reading, and the sign that is due.
use Rattle.lib_base.proofs.Prelude.{arith}
use Rattle.std.proofs.lemmas.Result.{err_from_is_err_and}
use Rattle.source_onward.proofs.After.{ended_missing, ended_found}
use Rattle.source_onward.proofs.ended.Goals as goal

pub returns-in_err-closing : goal.returns-in_err-closing
returns-in_err-closing c =
    let e = err_from_is_err_and c.from_residual-in_err-closing.result c.from_residual-in_err-closing.ensures.1 in
    Prim.rw (e.1, e.2) (ended_missing _ _ _ c.in_ok-formula.was _ c.sign_due.ensures.sign_told _ c.in_err-closing.was)

pub returns : goal.returns
returns c =
    let h = rw c.in_ok-closing.was at c.sign_due.ensures.due_within in
    ended_found _ _ _ c.in_ok-formula.was _ c.sign_due.ensures.sign_told _ _ _ _ c.in_ok-closing.was (omega arith) c.pass_over.ensures
