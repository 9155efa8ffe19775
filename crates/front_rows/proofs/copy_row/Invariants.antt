-- The cells passed are copied; with no cell, none is.
use Rattle.lib_base.proofs.Prelude.{◌≡◌, ◌-◌, ◌≤◌}
use Rattle.front_rows.specs.Cells.{cells_copied}
use Rattle.front_rows.proofs.copy_row.Given as goal

abbrev pub invariant-loop-n : goal.invariant-loop-n
invariant-loop-n l = record { same : l.draft ≡ cells_copied l.initial.draft l.i l.count (l.n - 1); within : l.n - 1 ≤ l.count - 1 }
