-- A word and its mark as one number, as the code hands them on. 02, M-104.
use Rattle.std.specs.Prelude.{ℕ, ◌+◌, Bool, ℤ}
use Rattle.lib_base.specs.Basics.{pick}
use Rattle.lib_arith.specs.Exact.{wrapped, beyond}
use Rattle.lib_arith.specs.Functions.{result_of, over}

-- a word and a mark as one number: 2^32 more where the mark is set
abbrev pub packed : ℕ → Bool → ℕ
packed w m = pick m (4294967296 + w) w

-- the word of a whole number, marked where it differs
abbrev pub reported : ℤ → ℕ
reported z = packed (wrapped z) (beyond z)

-- "Each function's answer shall also say": the 32-bit result, and 2^32 more where it ran over
unfoldable pub marked_result : ℕ → ℕ → ℕ → ℕ → ℕ
marked_result f a b c = packed (result_of f a b c) (over f a b c)
