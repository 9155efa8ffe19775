-- A number and a `]` that are due, one after the other.
use Rattle.std.proofs.lemmas.Result.{err_from_is_err_and}
use Rattle.source_operand.proofs.Leaves.{cell_unclosed, cell_numbered}
use Rattle.source_operand.proofs.cell_number.Goals as goal

pub returns-in_err-bracket-clause-cell_due : goal.returns-in_err-bracket-clause-cell_due
returns-in_err-bracket-clause-cell_due c =
    let e = err_from_is_err_and c.from_residual-in_err-bracket.result c.from_residual-in_err-bracket.ensures.1 in
    Prim.rw (e.1, e.2) (cell_unclosed _ _ _ _ _ _ _ _ c.number_due.ensures.number_told c.in_ok-number.was c.sign_due.ensures.sign_told c.in_err-bracket.was)

pub returns-clause-cell_due : goal.returns-clause-cell_due
returns-clause-cell_due c =
    cell_numbered _ _ _ _ _ _ _ _ _ _ c.number_due.ensures.number_told c.in_ok-number.was c.sign_due.ensures.sign_told c.in_ok-bracket.was
