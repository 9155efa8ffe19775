-- The digits that a text begins with, and a number as far as it counts.
use Rattle.std.specs.Prelude.{ℕ, ◌-◌, Bool, ◌&&◌, Option, Some, None, List, [], ◌∷◌, ltb, leb}
use Rattle.lib_base.specs.Basics.{pick}

-- the byte of a decimal digit
unfoldable pub is_decimal : ℕ → Bool
is_decimal b = leb 48 b && leb b 57

-- a digit's number, where the byte is one
unfoldable pub digit_found : ℕ → Option ℕ
digit_found b = pick (is_decimal b) (Some (b - 48)) None

unfoldable pub leading_digits : List ℕ → List ℕ
leading_digits [] = []
leading_digits (b ∷ bs) = pick (is_decimal b) (b ∷ leading_digits bs) []

-- numbers that are not below a limit are all alike
abbrev pub capped_to : ℕ → ℕ → ℕ
capped_to limit n = pick (ltb n limit) n limit
