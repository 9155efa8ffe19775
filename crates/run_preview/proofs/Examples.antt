-- Worked examples, by computation: 01's count "(k + 1) × (L + 1) steps .., k being the number in hand", of a table of
-- no event with two waiting and one running; and the last of a preview's answers.
use Rattle.lib_base.proofs.Prelude.{◌≡◌, refl, [], ◌∷◌}
use Rattle.lib_word.specs.Word.{get, get_at}
use Rattle.run_forecast.specs.Steps.{longest_in}
use Rattle.run_preview.specs.Preview.{in_hand, preview_steps, preview_answer}

pub three_in_hand : (in_hand 2 0 ≡ 2) × (in_hand 2 1 ≡ 3) × (preview_steps [] (0 ∷ 0 ∷ 0 ∷ 9 ∷ 0 ∷ 0 ∷ 0 ∷ 2 ∷ 0 ∷ 0 ∷ 0 ∷ 1 ∷ []) ≡ 4)
unfolding in_hand preview_steps longest_in get get_at
three_in_hand = (refl, refl, refl)

-- idle, and the value 5; a step was refused
pub answers : (preview_answer 0 5 ≡ 4294967301) × (preview_answer 14 5 ≡ 14)
unfolding preview_answer
answers = (refl, refl)
