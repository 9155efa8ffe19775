-- A row by its count, another behaviour by none.
use Rattle.lib_base.proofs.Prelude.{arith}
use Rattle.std.proofs.lemmas.Result.{err_from_is_err_and}
use Rattle.source_behaviours.proofs.Pieces.{no_row, row_unopened, row_opened}
use Rattle.source_behaviours.proofs.cells_due.Goals as goal

pub returns-then-word-ne-ROW-clause-due_read : goal.returns-then-word-ne-ROW-clause-due_read
returns-then-word-ne-ROW-clause-due_read c =
    no_row c.args.text.now c.args.at c.args.i c.args.word c.if-word-ne-ROW.true

pub returns-in_err-bracket-clause-due_read : goal.returns-in_err-bracket-clause-due_read
returns-in_err-bracket-clause-due_read c =
    let e = err_from_is_err_and c.from_residual.result c.from_residual.ensures.1 in
    let h = rw c.in_err-bracket.was at c.sign_due.ensures.sign_told in
    Prim.rw (e.1, e.2) (row_unopened c.args.text.now c.args.at c.args.i c.args.word _ (omega (arith, c.if-word-ne-ROW.false)) h)

pub returns-clause-due_read : goal.returns-clause-due_read
returns-clause-due_read c =
    let h = rw c.in_ok-bracket.was at c.sign_due.ensures.sign_told in
    row_opened c.args.text.now c.args.at c.args.i c.args.word _ _ c.count_at.result (omega (arith, c.if-word-ne-ROW.false)) h c.count_at.ensures.due_read
