-- Worked examples, by computation: masking and copy-back by counts, of W's event 0 (crate spec_language, Examples) with
-- 51 instructions and 6 members of C; and the order of a reading's last refusals. 01: "Interrupts are masked between
-- off and on. Copy-back runs from after the second off to the end of the second on"; 02, M-107: 25 before 19.
use Rattle.lib_base.proofs.Prelude.{ℕ, ◌+◌, ◌≡◌, refl, true, false, List, [], ◌∷◌, map}
use Rattle.lib_word.specs.Word.{get, get_at}
use Rattle.run_board.specs.Masking.{is_copying_back, is_masked}
use Rattle.run_board.specs.Board.{board_with}

-- before the first off; from off to on; between; from the second off to its on
pub masked_W : map (is_masked 51 6) (0 ∷ 1 ∷ 4 ∷ 7 ∷ 8 ∷ 30 ∷ 43 ∷ 44 ∷ 50 ∷ []) ≡ false ∷ true ∷ true ∷ true ∷ false ∷ false ∷ false ∷ true ∷ true ∷ []
unfolding is_masked is_copying_back
masked_W = refl

pub copy_back_W : map (is_copying_back 51 6) (4 ∷ 43 ∷ 44 ∷ 50 ∷ []) ≡ false ∷ false ∷ true ∷ true ∷ []
unfolding is_copying_back
copy_back_W = refl

pub in_order : (board_with [] 0 false true ≡ 25) × (board_with [] 0 true true ≡ 19) × (board_with [] 0 true false ≡ 4294967296)
unfolding board_with get get_at
in_order = (refl, refl, refl)

-- the board begins at word 136
pub second_value : (l : List ℕ) → board_with l 1 true false ≡ 4294967296 + get l 137
unfolding board_with
second_value l = refl
