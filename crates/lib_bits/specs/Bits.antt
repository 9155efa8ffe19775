-- A word of 64 bits as a set of numbers below 64.
use Rattle.std.specs.Prelude.{ℕ, ◌/◌, ◌%◌, ◌^◌, ◌<◌, Bool, ◌≡◌, eqb}

-- j is in the set m
unfoldable pub bit : ℕ → ℕ → Bool
bit m j = eqb (m / 2 ^ j % 2) 1

-- of the first n numbers, those that f tells are in the set m, and no others
abbrev pub Gathers : ℕ → ℕ → (ℕ → Bool) → Type 0
Gathers n m f = (j : ℕ) → j < n → bit m j ≡ f j
