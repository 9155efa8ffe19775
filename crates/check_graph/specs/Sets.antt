-- Needs as sets of numbers below 64 (crate lib_bits), a row for each: the matrix and the marks that rows and a set
-- stand for.
use Rattle.std.specs.Prelude.{ℕ, ◌/◌, ◌%◌, ◌≤◌, ◌<◌, Bool, false, ◌&&◌, ◌||◌, ◌≡◌, List, get_or, eqb}
use Rattle.std.specs.Int.Bits.{bit_and}
use Rattle.lib_base.specs.Basics.{pick}
use Rattle.lib_bits.specs.Bits.{bit}
use Rattle.spec_language.specs.Order.{up_to}
use Rattle.spec_language.specs.Code.{one?}
use Rattle.check_graph.specs.Matrix.{cell, closed}

-- i is not in the set, and what it needs is
unfoldable pub ready_set : ℕ → ℕ → ℕ → Bool
ready_set needs set i = pick (bit set i) false (eqb (bit_and needs set) needs)

-- the rows as a matrix of bytes, and a set as marks
unfoldable pub bytes_of : List ℕ → List ℕ
bytes_of rows = up_to 4096 (λ k. one? (bit (get_or rows (k / 64) 0) (k % 64)))

unfoldable pub marks_of : ℕ → List ℕ
marks_of set = up_to 64 (λ i. one? (bit set i))

-- r is what row m needs where what k needs is taken in, if m needs k
pub record TakenIn (row through k r : ℕ) : Type 0 where
  pub each : (b : ℕ) → bit r b ≡ bit row b || (bit row k && bit through b)

-- the same of each of the first n rows, through row k
pub record PassedThrough (rows : List ℕ) (k n : ℕ) (after : List ℕ) : Type 0 where
  pub row : (i b : ℕ) → i < n → bit (get_or after i 0) b ≡ bit (get_or rows i 0) b || (bit (get_or rows i 0) k && bit (get_or rows k 0) b)

-- each of the first n needs what is reached from it
pub record ClosedRows (rows : List ℕ) (n : ℕ) (after : List ℕ) : Type 0 where
  pub reached : (i b : ℕ) → i < n → b < n → bit (get_or after i 0) b ≡ cell (closed (bytes_of rows) n) i b

-- the first n need none but the first n
pub record RowsBelow (rows : List ℕ) (n : ℕ) : Type 0 where
  pub none_past : (i j : ℕ) → i < n → n ≤ j → bit (get_or rows i 0) j ≡ false
