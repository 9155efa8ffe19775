-- How a definition branches on a test, and what is said of every member of a list.
use Rattle.std.specs.Prelude.{List, [], ◌∷◌}
-- pick b x y is x if b holds, and else y
pub use Rattle.std.specs.Prelude.{cond as pick}

-- every member
abbrev pub All {ℓ} : {A : Type ℓ} → (A → Type 0) → List A → Type 0
All P [] = Unit {0}
All P (x ∷ l) = P x × All P l
