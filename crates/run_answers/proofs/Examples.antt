-- An answer's eight bytes, by computation: 2 ^ 32 and the word 16,909,060 at the second place.
use mathlib.Core.Path.{◌≡◌, refl}
use mathlib.Core.List.{[], ◌∷◌}
use lib.ListN.{replicate}
use Rattle.lib_word.specs.Word.{put}
use Rattle.run_answers.specs.Answers.{put_answer}

pub second_place : put_answer (replicate 17 9) 1 4311876356 ≡ 9 ∷ 9 ∷ 9 ∷ 9 ∷ 9 ∷ 9 ∷ 9 ∷ 9 ∷ 0 ∷ 0 ∷ 0 ∷ 1 ∷ 1 ∷ 2 ∷ 3 ∷ 4 ∷ 9 ∷ []
unfolding put_answer put
second_place = refl
