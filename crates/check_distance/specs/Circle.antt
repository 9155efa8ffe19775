-- A circle of behaviours. 01: "A behaviour reached from itself is a circle"; 02, M-108: "the behaviours of a circle,
-- each depending on the next".
use Rattle.std.specs.Prelude.{ℕ, Bool, true, ◌≡◌, List, [], ◌∷◌}

-- from a along the list to z, each depends on the next
abbrev pub Chain : (ℕ → ℕ → Bool) → ℕ → List ℕ → ℕ → Type 0
Chain dep a [] z = dep a z ≡ true
Chain dep a (b ∷ l) z = (dep a b ≡ true) × Chain dep b l z

-- and the last depends on the first
abbrev pub Circle : (ℕ → ℕ → Bool) → List ℕ → Type 0
Circle dep [] = ⊥
Circle dep (a ∷ l) = Chain dep a l a
