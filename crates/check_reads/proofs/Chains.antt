-- The closed rows have what is reached by a chain: cell by cell, those of the closed matrix.
use Rattle.lib_base.proofs.Prelude.{ℕ, ◌≤◌, ◌∙◌, Bool, List, arith}
use Rattle.check_graph.specs.Matrix.{cell, closed}
use Rattle.check_graph.specs.Sets.{bytes_of, ClosedRows}
use Rattle.check_graph.proofs.SetLaws.{cell_bytes_law, length_bytes}
use Rattle.check_reads.specs.Sets.{closed_by, RowsBy}
use Rattle.check_reads.proofs.Agrees.{cells_closed, closed_same}

pub chains_closed : {rows after : List ℕ} {n : ℕ} → n ≤ 64 → ClosedRows rows n after → (dep : ℕ → ℕ → Bool) → RowsBy dep n rows → RowsBy (closed_by n dep) n after
unfolding closed
chains_closed {rows} {after} {n} few c dep r i h j b =
    c.reached i j h b
    ∙ cells_closed (bytes_of rows) n (length_bytes rows) few n i j h b (omega arith)
    ∙ closed_same n (λ x y. cell (bytes_of rows) x y) dep (λ x y p q. cell_bytes_law rows x y (omega arith) (omega arith) ∙ r x p y q) n i j h b (omega arith)
