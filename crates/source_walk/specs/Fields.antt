-- The first cells of behaviours' fields and the parameters that behaviours need, worked out from a sheet's bytes as the
-- code does: a number bounds each repetition. A list of bytes here is what stands from a place of the sheet on.
use Rattle.std.specs.Prelude.{ℕ, zero, suc, ◌+◌, List, [], ◌∷◌, length, ltb, eqb}
use Rattle.lib_base.specs.Basics.{pick}
use Rattle.sheet_walk.specs.Fields.{after_field, cells_in_front}
use Rattle.sheet_walk.specs.Scanner.{left_after, tag_after, is_number}

-- ---- first cells

-- the number of the first cell of behaviour i's field, where the first of at most k fields has number j; i itself where
-- it is in none
unfoldable pub first_cell : ℕ → ℕ → List ℕ → ℕ → ℕ
first_cell zero j b i = i
first_cell (suc k) j b i = pick (eqb (length b) 0) i (pick (ltb i (j + cells_in_front b)) j (first_cell k (j + cells_in_front b) (after_field b) i))

-- ---- parameters

-- "`param` lines up to the highest parameter used": those needed after a byte, with the scanner before it
unfoldable pub needed_after : ℕ → ℕ → ℕ → ℕ → ℕ
needed_after t k n b = pick (is_number 19 t k) (pick (ltb n (b + 1)) (b + 1) n) n

-- and after all of them
unfoldable pub needed_in : ℕ → ℕ → ℕ → List ℕ → ℕ
needed_in t k n [] = n
needed_in t k n (b ∷ bs) = needed_in (tag_after t k b) (left_after k b) (needed_after t k n b) bs
