-- One more cell.
use Rattle.lib_base.proofs.Prelude.{ℕ, suc, zero, ◌+◌, ◌*◌, ◌-◌, ◌≤◌, ◌≡◌, refl, List, arith}
use Rattle.front_rows.specs.Cells.{cell_copied, cells_copied}

-- the cell with place n is the n-th after the first
pub cells_more : (d : List ℕ) (i c n : ℕ) → 1 ≤ n → cells_copied d i c (n + 1 - 1) ≡ cell_copied (cells_copied d i c (n - 1)) i (i + n) (c * 16 + n)
unfolding cells_copied
cells_more d i c zero h = absurd (omega arith)
cells_more d i c (suc m) h =
    let s : suc m + 1 - 1 ≡ suc m = omega arith in
    let p : suc m - 1 ≡ m = omega arith in
    let a : i + m + 1 ≡ i + suc m = omega arith in
    let b : c * 16 + m + 1 ≡ c * 16 + suc m = omega arith in
    rw (s, p, ← a, ← b) refl
