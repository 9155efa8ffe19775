-- A word with its bytes swapped: what each of its bytes is, and that the library turns it so.
use Rattle.lib_base.proofs.Prelude.{ℕ, ◌<◌, ◌+◌, ◌*◌, ◌%◌, ◌/◌, ◌≡◌, [], ◌∷◌, arith}
use Rattle.std.specs.Int as int
use Rattle.lib_word.specs.Halves.{swap_bytes}

-- the word of four bytes, the first the lowest
unfoldable pub little : ℕ → ℕ → ℕ → ℕ → ℕ
little a b c d = a + b * 256 + c * 65536 + d * 16777216

byte_0 : (a b c d : ℕ) → a < 256 → little a b c d % 256 ≡ a
unfolding little
byte_0 a b c d x = omega arith

byte_1 : (a b c d : ℕ) → a < 256 → b < 256 → little a b c d / 256 % 256 ≡ b
unfolding little
byte_1 a b c d x y = omega arith

byte_2 : (a b c d : ℕ) → a < 256 → b < 256 → c < 256 → little a b c d / 65536 % 256 ≡ c
unfolding little
byte_2 a b c d x y z = omega arith

byte_3 : (a b c d : ℕ) → a < 256 → b < 256 → c < 256 → little a b c d / 16777216 ≡ d
unfolding little
byte_3 a b c d x y z = omega arith

-- bytes read the lowest first are, swapped, the word with the highest first
pub swap_little : (a b c d : ℕ) → a < 256 → b < 256 → c < 256 → swap_bytes (little a b c d) ≡ ((a * 256 + b) * 256 + c) * 256 + d
unfolding swap_bytes
swap_little a b c d x y z = rw (byte_0 a b c d x, byte_1 a b c d x y, byte_2 a b c d x y z, byte_3 a b c d x y z)

-- a swapped word is little-endian of the bytes from the highest on
swap_is : (w : ℕ) → swap_bytes w ≡ little (w / 16777216) (w / 65536 % 256) (w / 256 % 256) (w % 256)
unfolding swap_bytes little
swap_is w = omega arith

pub swap_0 : (w : ℕ) → w < 4294967296 → swap_bytes w % 256 ≡ w / 16777216
swap_0 w h = rw (swap_is w) (byte_0 (w / 16777216) (w / 65536 % 256) (w / 256 % 256) (w % 256) (omega arith))

pub swap_1 : (w : ℕ) → w < 4294967296 → swap_bytes w / 256 % 256 ≡ w / 65536 % 256
swap_1 w h =
    rw (swap_is w) (byte_1 (w / 16777216) (w / 65536 % 256) (w / 256 % 256) (w % 256) (omega arith) (omega arith))

pub swap_2 : (w : ℕ) → w < 4294967296 → swap_bytes w / 65536 % 256 ≡ w / 256 % 256
swap_2 w h =
    rw (swap_is w) (byte_2 (w / 16777216) (w / 65536 % 256) (w / 256 % 256) (w % 256) (omega arith) (omega arith) (omega arith))

pub swap_3 : (w : ℕ) → w < 4294967296 → swap_bytes w / 16777216 ≡ w % 256
swap_3 w h =
    rw (swap_is w) (byte_3 (w / 16777216) (w / 65536 % 256) (w / 256 % 256) (w % 256) (omega arith) (omega arith) (omega arith))

-- the library's turn is the definition's
pub turn_is : (w : ℕ) → w < 4294967296 → int.swap_bytes int.w32 w ≡ swap_bytes w
unfolding swap_bytes
turn_is w h = omega arith

-- the bytes of a turned word from the lowest on are the word's from the highest on
pub turned_bytes : (w t : ℕ) → w < 4294967296 → t ≡ int.swap_bytes int.w32 w
    → int.to_le_bytes int.w32 t ≡ w / 16777216 ∷ w / 65536 % 256 ∷ w / 256 % 256 ∷ w % 256 ∷ []
turned_bytes w t h e =
    let top : swap_bytes w / 16777216 % 256 ≡ w % 256 = rw (swap_3 w h) (omega arith) in
    rw (e, turn_is w h) (rw (swap_0 w h, swap_1 w h, swap_2 w h, top))

-- and those of a half
pub half_bytes : (h : ℕ) → h < 65536 → int.to_be_bytes int.w16 h ≡ h / 256 ∷ h % 256 ∷ []
half_bytes h b = let high : h / 256 % 256 ≡ h / 256 = omega arith in rw high
