-- A dependence matrix of 64 rows and 64 columns of bytes, and its transitive closure in place (Warshall).
use Rattle.std.specs.Prelude.{ℕ, zero, suc, ◌+◌, ◌*◌, Bool, false, not, List, get_or, set, eqb, ltb}
use Rattle.lib_base.specs.Basics.{pick}

-- i depends on j
abbrev pub cell : List ℕ → ℕ → ℕ → Bool
cell m i j = not (eqb (get_or m (i * 64 + j) 0) 0)

-- the same among the first n
abbrev pub cell_below : ℕ → List ℕ → ℕ → ℕ → Bool
cell_below n m i j = pick (ltb i n) (pick (ltb j n) (cell m i j) false) false

-- i comes to depend on j if k does
unfoldable pub close_cell : List ℕ → ℕ → ℕ → ℕ → List ℕ
close_cell m i k j = pick (eqb (get_or m (k * 64 + j) 0) 0) m (set m (i * 64 + j) 1)

-- row i takes in the first c columns of row k
unfoldable pub close_row : List ℕ → ℕ → ℕ → ℕ → List ℕ
close_row m i k zero = m
close_row m i k (suc c) = close_cell (close_row m i k c) i k c

-- only if i depends on k
unfoldable pub close_through : List ℕ → ℕ → ℕ → ℕ → List ℕ
close_through m i k n = pick (eqb (get_or m (i * 64 + k) 0) 0) m (close_row m i k n)

-- the first r rows take in row k
unfoldable pub close_rows : List ℕ → ℕ → ℕ → ℕ → List ℕ
close_rows m k n zero = m
close_rows m k n (suc r) = close_through (close_rows m k n r) r k n

-- the first k of n are passed through
unfoldable pub close_by : List ℕ → ℕ → ℕ → List ℕ
close_by m n zero = m
close_by m n (suc k) = close_rows (close_by m n k) k n n

unfoldable pub closed : List ℕ → ℕ → List ℕ
closed m n = close_by m n n
