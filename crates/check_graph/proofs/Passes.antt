-- A pass through k changes the rows as it changes the matrix, so that after all of them the rows are those of the
-- closed matrix: row by row, and pass by pass.
use Rattle.lib_base.proofs.Prelude.{ℕ, ◌≤◌, ◌<◌, ◌+◌, ◌≡◌, ◌∙◌, sym, subst, Bool, ◌||◌, ◌&&◌, List}
use Rattle.lib_base.proofs.Prelude.{length, get_or, add-one, arith}
use Rattle.lib_bits.specs.Bits.{bit}
use Rattle.check_graph.specs.Matrix.{cell, close_by, closed}
use Rattle.check_graph.specs.Sets.{bytes_of, PassedThrough, ClosedRows}
use Rattle.check_graph.proofs.Closure.{length_close_by, pass_is}
use Rattle.check_graph.proofs.SetLaws.{cell_bytes_law, length_bytes}

-- ---- the first i rows are passed

-- what row j has after the pass through k
abbrev after : List ℕ → ℕ → ℕ → ℕ → Bool
after rows k j b = bit (get_or rows j 0) b || (bit (get_or rows j 0) k && bit (get_or rows k 0) b)

pub record Passing (rows₀ : List ℕ) (k n : ℕ) (rows : List ℕ) (i : ℕ) : Type 0 where
  pub done : (j : ℕ) → j < i → (b : ℕ) → bit (get_or rows j 0) b ≡ after rows₀ k j b
  pub left : (j : ℕ) → i ≤ j → get_or rows j 0 ≡ get_or rows₀ j 0

-- ---- the first k are passed through

pub record Closing (rows₀ : List ℕ) (n : ℕ) (rows : List ℕ) (k : ℕ) : Type 0 where
  pub reached : (i b : ℕ) → i < n → b < n → bit (get_or rows i 0) b ≡ cell (close_by (bytes_of rows₀) n k) i b

pub closing_start : (rows : List ℕ) (n : ℕ) → n ≤ 64 → Closing rows n rows 0
unfolding close_by
closing_start rows n few = record {
  reached = λ i b h c. sym (cell_bytes_law rows i b (omega arith) (omega arith));
}

pub closing_turn : {rows₀ rows rows' : List ℕ} {n k : ℕ} → Closing rows₀ n rows k → n ≤ 64 → k < n → PassedThrough rows k n rows' → Closing rows₀ n rows' (k + 1)
unfolding close_by
closing_turn {rows₀} {rows} {rows'} {n} {k} c few h p =
    let w = close_by (bytes_of rows₀) n k in
    let size : length w ≡ 4096 = length_close_by (bytes_of rows₀) n k ∙ length_bytes rows₀ in
    record {
      reached = λ i b s t. p.row i b s ∙ rw (c.reached i b s t, c.reached i k s h, c.reached k b h t)
          (rw (add-one k) (sym (pass_is w k n size few h i b s t)));
    }

pub closing_end : {rows₀ rows : List ℕ} {n k : ℕ} → Closing rows₀ n rows k → k ≡ n → ClosedRows rows₀ n rows
unfolding closed
closing_end {rows₀} {rows} {n} {k} c e =
    record { reached = subst (λ (x : ℕ). (i b : ℕ) → i < n → b < n → bit (get_or rows i 0) b ≡ cell (close_by (bytes_of rows₀) n x) i b) e c.reached }
