-- Worked example, by computation: of b0, b1 and b2, each depends on the next and b2 on b0. 02, M-108: "the behaviours
-- of a circle, each depending on the next".
use Rattle.lib_base.proofs.Prelude.{ℕ, ◌+◌, ◌%◌, refl, Bool, false≢true, [], ◌∷◌, eqb}
use Rattle.check_distance.specs.Circle.{Circle}

abbrev round : ℕ → ℕ → Bool
round a b = eqb b ((a + 1) % 3)

pub circles : Circle round (0 ∷ 1 ∷ 2 ∷ []) × Circle round (2 ∷ 0 ∷ 1 ∷ []) × (Circle round (2 ∷ 1 ∷ 0 ∷ []) → ⊥) × (Circle round (0 ∷ 1 ∷ []) → ⊥) × (Circle round [] → ⊥)
circles = ((refl, (refl, refl)), (refl, (refl, refl)), λ h. false≢true h.0, λ h. false≢true h.1, λ h. h)
