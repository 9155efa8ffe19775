-- A sheet's bytes from tag to tag: how many bytes stand before the next tag, which tag was met last, and so which byte
-- is a name's or a parameter's number. The scanner begins at a tag, with 0 left and any tag.
use Rattle.std.specs.Prelude.{ℕ, ◌-◌, Bool, false, ltb, eqb}
use Rattle.lib_base.specs.Basics.{pick}

-- behind a tag, how many bytes stand before the next: the length's two, and what stands before the fields inside (a
-- handler's event and phase, a row's cells, an application's function), or the whole value of a field that has none
-- inside
unfoldable pub until_tag : ℕ → ℕ
until_tag b = pick (eqb b 16) 6 (pick (eqb b 4) 6 (pick (eqb b 5) 4 (pick (ltb b 4) 2 3)))

-- how many after one more byte, with k before it; it is a tag where k is 0
unfoldable pub left_after : ℕ → ℕ → ℕ
left_after k b = pick (eqb k 0) (until_tag b) (k - 1)

-- the tag met last, after one more byte
unfoldable pub tag_after : ℕ → ℕ → ℕ → ℕ
tag_after t k b = pick (eqb k 0) b t

-- whether the byte that comes is the number in a field of tag n
unfoldable pub is_number : ℕ → ℕ → ℕ → Bool
is_number n t k = pick (eqb k 1) (eqb t n) false
