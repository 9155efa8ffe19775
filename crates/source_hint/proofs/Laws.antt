-- What the loop over declarations keeps: each behaviour has a cell.
use Rattle.lib_base.proofs.Prelude.{ℕ, ◌≤◌, ◌+◌, ◌≡◌, List, length}
use Rattle.lib_base.specs.Basics.{All}

pub record Scanned (long : ℕ) (names starts : List ℕ) (params count cells at : ℕ) : Type 0 where
  pub within : at ≤ long
  pub first : params ≤ count
  pub few_parameters : params ≤ 8
  pub few_cells : cells ≤ 64
  pub celled : count ≤ params + cells
  pub all_names : length names ≡ 72
  pub all_starts : length starts ≡ 65
  pub low : All (λ i. i ≤ 64) starts
