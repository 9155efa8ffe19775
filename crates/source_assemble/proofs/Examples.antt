-- Worked examples, by computation: a place in a text of two lines as one number, line * 2 ^ 28 + column, both counted
-- from 1; and a fault's number, its kind by 2 ^ 56.
use Rattle.lib_base.proofs.Prelude.{◌≡◌, refl, ◌∷◌, []}
use Rattle.source_language.specs.Faults.{outside}
use Rattle.source_coding.specs.FaultWords.{fault_of}
use Rattle.source_language.specs.Answer.{line_from, column_from}
use Rattle.source_assemble.specs.Assemble.{place_told, fault_numbered}

-- "ab", the line's end, "c"
pub places : (place_told (97 ∷ 98 ∷ 10 ∷ 99 ∷ []) 0 ≡ 268435457) × (place_told (97 ∷ 98 ∷ 10 ∷ 99 ∷ []) 1 ≡ 268435458) × (place_told (97 ∷ 98 ∷ 10 ∷ 99 ∷ []) 3 ≡ 536870913)
unfolding place_told line_from column_from
places = (refl, refl, refl)

-- 31 before byte 3: in line 2, column 1
pub fault_31 : fault_numbered (97 ∷ 98 ∷ 10 ∷ 99 ∷ []) (fault_of outside 3) ≡ 2233785415712636929
unfolding place_told line_from column_from
fault_31 = refl
