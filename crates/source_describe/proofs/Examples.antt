-- Worked examples, by computation: a text of two bytes in a buffer of three, of two and of one. docs/SHEETS.md "Back to
-- text": 2 ^ 32 and its length, and 41 for a buffer that is too short.
use Rattle.lib_base.proofs.Prelude.{◌≡◌, refl, [], ◌∷◌}
use Rattle.text_formula.specs.Answer.{answered}
use Rattle.source_describe.specs.Describing.{text_delivered}

pub room : (text_delivered (65 ∷ 66 ∷ []) (9 ∷ 8 ∷ 7 ∷ []) ≡ answered 4294967298 (65 ∷ 66 ∷ 7 ∷ [])) × (text_delivered (65 ∷ 66 ∷ []) (9 ∷ 8 ∷ []) ≡ answered 4294967298 (65 ∷ 66 ∷ []))
    × (text_delivered (65 ∷ 66 ∷ []) (9 ∷ []) ≡ answered 41 (9 ∷ []))
room = (refl, refl, refl)
