-- Bytes beyond a buffer's own. Demand 1.
use Rattle.std.specs.Prelude.{ℕ, ◌≡◌, List, length, drop}

-- of the bytes l, lent and left as m, those from n on are as they were, and the length
abbrev pub UntouchedFrom : ℕ → List ℕ → List ℕ → Type 0
UntouchedFrom n l m = (drop n m ≡ drop n l) × (length m ≡ length l)
