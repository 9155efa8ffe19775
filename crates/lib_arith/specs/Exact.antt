-- Words of 32 bits, read as two's complement, whole numbers brought to 32 bits, and which of them do not fit (02,
-- M-104).
use Rattle.std.specs.Prelude.{ℕ, ◌-◌, ◌%◌, ◌^◌, Bool, ◌||◌, ℤ, pos, negsuc, int_lt, nat_lt}
use Rattle.lib_base.specs.Basics.{pick}

-- the whole number that a word stands for: negsuc n is -(n + 1)
abbrev pub signed : ℕ → ℤ
signed a = pick (nat_lt a (2 ^ 31)) (pos a) (negsuc (2 ^ 32 - 1 - a))

-- the word of a whole number: its remainder by 2^32
abbrev pub wrapped : ℤ → ℕ
wrapped (pos n) = n % 2 ^ 32
wrapped (negsuc n) = 2 ^ 32 - 1 - n % 2 ^ 32

-- M-104: a whole number "differed from the 32-bit one"
unfoldable pub beyond : ℤ → Bool
beyond z = int_lt z (signed (wrapped z)) || int_lt (signed (wrapped z)) z
