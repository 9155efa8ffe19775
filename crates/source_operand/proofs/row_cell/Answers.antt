-- The branches of `cell_term` of a row.
use Rattle.lib_base.proofs.Prelude.{◌+◌, ◌≡◌, refl, ne_eqb, lt-ltb, eq-eqb, arith}
use Rattle.spec_language.specs.Grammar.{encode_expr}
use Rattle.source_operand.proofs.row_cell.Goals as goal

pub returns-then-k-ne0-clause-leaf_as : goal.returns-then-k-ne0-clause-leaf_as
unfolding encode_expr
returns-then-k-ne0-clause-leaf_as c =
    let a = c.args in
    rw (lt-ltb a.k a.n c.if-n-k.false, ne_eqb a.k 0 c.if-k-ne0.true) (refl, omega arith)

pub returns-clause-leaf_as : goal.returns-clause-leaf_as
unfolding encode_expr
returns-clause-leaf_as c =
    let a = c.args in
    let z : a.i + a.k ≡ a.i = omega (arith, c.if-k-ne0.false) in
    rw (lt-ltb a.k a.n c.if-n-k.false, eq-eqb a.k 0 c.if-k-ne0.false, ne_eqb a.n a.cells c.if-n-cells.false, z) (refl, omega arith)
