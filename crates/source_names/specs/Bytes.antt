-- What the comparison of two names goes by, byte by byte.
use Rattle.std.specs.Prelude.{ℕ, zero, suc, ◌+◌, Bool, true, ◌&&◌, List, get_or, eqb}

-- the n bytes at the places p and q of a text are the same
unfoldable pub same_bytes : List ℕ → ℕ → ℕ → ℕ → Bool
same_bytes text p q zero = true
same_bytes text p q (suc n) = same_bytes text p q n && eqb (get_or text (p + n) 0) (get_or text (q + n) 0)
