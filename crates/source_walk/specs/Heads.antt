-- What the functions that note first cells promise: of each number that a byte can be, the first cell of its field.
use Rattle.std.specs.Prelude.{ℕ, ◌+◌, ◌≤◌, ◌<◌, ◌≡◌, List, length, get_or, drop}
use Rattle.source_walk.specs.Fields.{first_cell}

-- the numbers from j on are their own
pub record OwnFrom (heads : List ℕ) (j : ℕ) : Type 0 where
  pub long : length heads ≡ 256
  pub own : (i : ℕ) → j ≤ i → i < 256 → get_or heads i 0 ≡ i

-- from a to b, the n numbers from j on got the first cell j, and the others stay
pub record CellsNoted (a b : List ℕ) (j n : ℕ) : Type 0 where
  pub as_long : length b ≡ length a
  pub cells : (i : ℕ) → j ≤ i → i < j + n → i < 256 → get_or b i 0 ≡ j
  pub before : (i : ℕ) → i < j → get_or b i 0 ≡ get_or a i 0
  pub behind : (i : ℕ) → j + n ≤ i → get_or b i 0 ≡ get_or a i 0

-- the first cells in the sheet s, whose behaviours stand from the place `first` on
pub record HeadsOf (s : List ℕ) (first : ℕ) (heads : List ℕ) : Type 0 where
  pub each : (i : ℕ) → i < 256 → get_or heads i 0 ≡ first_cell (length s) 0 (drop first s) i
