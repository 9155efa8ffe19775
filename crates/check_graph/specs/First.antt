-- The first number of a set.
use Rattle.std.specs.Prelude.{ℕ, ◌<◌, Bool, true, false, ◌≡◌, Option, Some, None}

-- the lowest below n of which f is true, or none where there is none
abbrev pub FirstOf : (ℕ → Bool) → ℕ → Option ℕ → Type 0
FirstOf f n None = (j : ℕ) → j < n → f j ≡ false
FirstOf f n (Some i) = (i < n) × (f i ≡ true) × ((j : ℕ) → j < i → f j ≡ false)
