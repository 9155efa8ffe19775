-- What the functions mean, by their numbers: the exact whole-number result, the 32-bit one, and whether it ran over. 01
-- "Arithmetic", division as in M-102, M-104.
use Rattle.std.specs.Prelude.{ℕ, suc, ◌+◌, ◌-◌, ◌/◌, Bool, true, false, not, ◌&&◌, ◌||◌, ℤ, pos, negsuc, ◌+ℤ◌, ◌-ℤ◌, ◌*ℤ◌, neg_ℤ, ◌==◌, int_lt}
use Rattle.lib_base.specs.Basics.{pick}
use Rattle.lib_arith.specs.Exact.{signed, wrapped, beyond}

-- "Zero is false, all else true; tests give 1 or 0."
abbrev pub is_true : ℤ → Bool
is_true (pos n) = not (n == 0)
is_true (negsuc n) = true

abbrev pub truth : Bool → ℤ
truth true = pos 1
truth false = pos 0

-- a quotient of natural numbers with any fraction rounded up; 0 for a zero divisor
abbrev pub ceiling : ℕ → ℕ → ℕ
ceiling a b = (a + (b - 1)) / b

-- "A quotient with a fraction goes to the next whole number below [..] By zero still gives 0": of equal signs, the
-- quotient of the magnitudes, whose fraction `/` drops; of different signs, minus that quotient rounded up. negsuc n is
-- -(n + 1).
abbrev pub floor_z : ℤ → ℤ → ℤ
floor_z (pos a) (pos b) = pos (a / b)
floor_z (pos a) (negsuc b) = neg_ℤ (pos (ceiling a (suc b)))
floor_z (negsuc a) (pos b) = neg_ℤ (pos (ceiling (suc a) b))
floor_z (negsuc a) (negsuc b) = pos (suc a / suc b)

-- the functions of lib_signature, in its order; 0 for a number that is none of them. An argument that a function does
-- not need is not looked at.
unfoldable pub exact : ℕ → ℤ → ℤ → ℤ → ℤ
exact f x y z =
    pick (f == 1) (truth (is_true x || is_true y))
    (pick (f == 2) (truth (is_true x && is_true y))
    (pick (f == 3) (truth (not (is_true x)))
    (pick (f == 4) (x +ℤ y)
    (pick (f == 5) (x -ℤ y)
    (pick (f == 6) (x *ℤ y)
    (pick (f == 7) (floor_z x y)
    (pick (f == 8) (truth (int_lt y x))
    (pick (f == 9) (truth (not (int_lt x y)))
    (pick (f == 10) (truth (int_lt x y))
    (pick (f == 11) (truth (not (int_lt y x)))
    (pick (f == 12) (truth (not (int_lt x y) && not (int_lt y x)))
    (pick (f == 13) (truth (int_lt x y || int_lt y x))
    (pick (f == 14) (pick (is_true x) y z)
    (pos 0))))))))))))))

-- the result on 32-bit words: the exact one of the numbers that they stand for, brought to 32 bits
unfoldable pub result_of : ℕ → ℕ → ℕ → ℕ → ℕ
result_of f a b c = wrapped (exact f (signed a) (signed b) (signed c))

-- M-104: "whether its exact whole-number result differed from the 32-bit one, or the divisor was zero"
unfoldable pub over : ℕ → ℕ → ℕ → ℕ → Bool
over f a b c = (f == 7 && b == 0) || beyond (exact f (signed a) (signed b) (signed c))
