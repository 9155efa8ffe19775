-- The header's answer passed on, torn or whole, is `field_of`.
use Rattle.std.proofs.Common.{rules, ◌≡◌}
use Rattle.lib_base.proofs.Prelude.{◌∙◌, arith}
use Rattle.sheet_field.proofs.Laws.{answer_refused, answer_torn, answer_whole}
use Rattle.std.proofs.lemmas.Result.{err_from_is_err_and}
use Rattle.sheet_field.proofs.field_answer.Goals as goal

pub returns-in_err-header-clause-value : goal.returns-in_err-header-clause-value
returns-in_err-header-clause-value c =
    let p = err_from_is_err_and c.from_residual.result c.from_residual.ensures.1 in
    Prim.rw (p.1, p.2) (answer_refused _ _ _ c.header_answer.ensures.value c.in_err-header.was)

pub returns-then-s-header-clause-value : goal.returns-then-s-header-clause-value
returns-then-s-header-clause-value c = answer_torn _ _ _ c.header_answer.ensures.value c.in_ok-header.was c.if-s-header.true

pub returns-clause-value : goal.returns-clause-value
returns-clause-value c = answer_whole _ _ _ c.header_answer.ensures.value c.in_ok-header.was (Prim.omega arith)
