-- Rows as the reader reads them. 02, M-110: "A new field 06 in place of 03 begins with a one-byte cell count": which
-- tags are due where a behaviour may stand, how many behaviours the field there makes, and the draft (crate
-- draft_form) with the cells of a row after the first: each has the entries, the start and the right to see of the
-- first, and a place of its own.
use Rattle.std.specs.Prelude.{ℕ, zero, suc, ◌+◌, ◌*◌, ◌-◌, List, length, get_or, set, eqb, ltb}
use Rattle.lib_base.specs.Basics.{pick}

-- ---- the field at the front of s

-- the tags due: 06 if that stands there, else those from lo to 03
unfoldable pub least_of : List ℕ → ℕ → ℕ
least_of s lo = pick (eqb (length s) 0) lo (pick (eqb (get_or s 0 0) 6) 6 lo)

unfoldable pub most_of : List ℕ → ℕ
most_of s = pick (eqb (length s) 0) 3 (pick (eqb (get_or s 0 0) 6) 6 3)

-- how many behaviours it makes
unfoldable pub cells_at : List ℕ → ℕ
cells_at s = pick (ltb (length s) 4) 1 (pick (eqb (get_or s 0 0) 6) (get_or s 3 0) 1)

-- ---- copies

-- the entries of behaviour i for the first n events go to behaviour k too
unfoldable pub entries_copied : List ℕ → ℕ → ℕ → ℕ → List ℕ
entries_copied d i k zero = d
entries_copied d i k (suc n) = set (entries_copied d i k n) (2048 + k * 32 + n) (get_or (entries_copied d i k n) (2048 + i * 32 + n) 0)

-- behaviour k is a cell like behaviour i, at this place in its row
unfoldable pub start_copied : List ℕ → ℕ → ℕ → List ℕ
start_copied d i k = set d (4160 + k) (get_or d (4160 + i) 0)

unfoldable pub viewer_copied : List ℕ → ℕ → ℕ → List ℕ
viewer_copied d i k = set d (4256 + k) (get_or d (4256 + i) 0)

unfoldable pub cell_copied : List ℕ → ℕ → ℕ → ℕ → List ℕ
cell_copied d i k place = set (viewer_copied (start_copied (entries_copied d i k 32) i k) i k) (4352 + k) place

-- the first n cells after the first one, i, of a row of c
unfoldable pub cells_copied : List ℕ → ℕ → ℕ → ℕ → List ℕ
cells_copied d i c zero = d
cells_copied d i c (suc n) = cell_copied (cells_copied d i c n) i (i + n + 1) (c * 16 + n + 1)

-- the row of c cells from i on, which takes the first place
unfoldable pub row_copied : List ℕ → ℕ → ℕ → List ℕ
row_copied d i c = cells_copied (set d (4352 + i) (c * 16)) i c (c - 1)
