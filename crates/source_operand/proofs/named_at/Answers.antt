-- A name, or a cell of it where `[` follows: what is due is read, and the leaf written.
use Rattle.lib_base.proofs.Prelude.{arith}
use Rattle.std.proofs.lemmas.Result.{err_from_is_err_and}
use Rattle.source_names.specs.Known.{meaning_by}
use Rattle.source_operand.proofs.Leaves.{name_read, cell_misread, cell_read}
use Rattle.source_operand.proofs.named_at.Goals as goal

pub returns-in_default-clause-formula_read : goal.returns-in_default-clause-formula_read
returns-in_default-clause-formula_read c =
    (name_read _ _ _ _ _ _ _ _ c.requires.at_lt_next _ _ c.name_leaf.result _ _ c.bracket_at.ensures.bracket_told c.in_default.is
    (rw c.meaning_of-meaning.ensures.result_value at c.name_leaf.ensures.leaf_as) c.put_leaf.ensures.value c.put_leaf.ensures.out_after).0

pub returns-in_err-cell-clause-formula_read : goal.returns-in_err-cell-clause-formula_read
returns-in_err-cell-clause-formula_read c =
    let a = c.args in
    let e = err_from_is_err_and c.from_residual.result c.from_residual.ensures.1 in
    Prim.rw (e.1, e.2)
    (cell_misread _ (meaning_by a.text.now a.places.now a.cursor.sorted a.meanings.now) a.cursor.cells _ _ a.cursor.end _ a.out.now c.requires.at_lt_next
    _ _ _ _ c.bracket_at.ensures.bracket_told c.in-Ok.is _ _ c.cell_number.ensures.cell_due c.in_err-cell.was).0

pub returns-clause-formula_read : goal.returns-clause-formula_read
returns-clause-formula_read c =
    let f = rw c.in-Ok.is at c.bracket_at.ensures.due_within in
    let g = rw c.in_ok-cell.was at c.cell_number.ensures.due_within in
    (cell_read _ _ _ _ _ _ _ _ c.requires.at_lt_next _ _ _ _ c.bracket_at.ensures.bracket_told c.in-Ok.is _ _ _ _ c.cell_leaf-leaf.result _ _
    c.cell_number.ensures.cell_due c.in_ok-cell.was (omega arith)
    (rw c.meaning_of-meaning.ensures.result_value at c.cell_leaf-leaf.ensures.leaf_as) c.put_leaf-2.ensures.value c.put_leaf-2.ensures.out_after).0
