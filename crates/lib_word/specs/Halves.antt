-- Halves of two bytes, and a word with its bytes turned: what the code reads and writes beside words.
use Rattle.std.specs.Prelude.{ℕ, ◌+◌, ◌*◌, ◌/◌, ◌%◌, List, get_or, set}

-- a word with its four bytes in the other order
unfoldable pub swap_bytes : ℕ → ℕ
swap_bytes w = ((w % 256 * 256 + w / 256 % 256) * 256 + w / 65536 % 256) * 256 + w / 16777216

-- the half of two bytes from byte i on
unfoldable pub get_half : List ℕ → ℕ → ℕ
get_half l i = get_or l i 0 * 256 + get_or l (i + 1) 0

-- h put at byte i
unfoldable pub put_half : List ℕ → ℕ → ℕ → List ℕ
put_half l i h = set (set l i (h / 256)) (i + 1) (h % 256)
