-- The table's words on rights, from the draft (crate draft_form): who may see each behaviour, and who may send each
-- event. 02, M-107.
use Rattle.std.specs.Prelude.{ℕ, ◌+◌, ◌%◌, List, [], ◌∷◌, ◌++◌, get_or}
use Rattle.format_image.specs.Table.{padded}
use Rattle.back_emit.specs.Words.{each}

-- the number at place from + j of the draft, as a word
unfoldable pub draft_number : List ℕ → ℕ → ℕ → List ℕ
draft_number d from j = (get_or d (from + j) 0 % 4294967296) ∷ []

unfoldable pub right_words : List ℕ → ℕ → ℕ → List ℕ
right_words d ev bs = padded 64 (each bs (draft_number d 4256)) ++ padded 32 (each ev (draft_number d 4320))
