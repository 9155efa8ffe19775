-- Bytes as words and halves. 01: "Numbers of several bytes are big-endian."
use Rattle.std.specs.Prelude.{ℕ, zero, suc, ◌+◌, ◌*◌, ◌/◌, ◌%◌, List, [], ◌∷◌, get_or, set}

-- the word of four bytes from byte i on
unfoldable pub get_at : List ℕ → ℕ → ℕ
get_at l i = ((get_or l i 0 * 256 + get_or l (i + 1) 0) * 256 + get_or l (i + 2) 0) * 256 + get_or l (i + 3) 0

-- word k: the four bytes from 4k on
unfoldable pub get : List ℕ → ℕ → ℕ
get l k = get_at l (k * 4)

-- w put at word k
unfoldable pub put : List ℕ → ℕ → ℕ → List ℕ
put l k w =
    set (set (set (set l (k * 4) (w / 16777216)) (k * 4 + 1) (w / 65536 % 256)) (k * 4 + 2) (w / 256 % 256)) (k * 4 + 3) (w % 256)

-- n words from word a on
unfoldable pub words : List ℕ → ℕ → ℕ → List ℕ
words l a zero = []
words l a (suc n) = get l a ∷ words l (suc a) n

-- n words from word a on, the last in front: a stack of n words
unfoldable pub pile : List ℕ → ℕ → ℕ → List ℕ
pile l a zero = []
pile l a (suc n) = get l (a + n) ∷ pile l a n
