-- Worked examples, by computation: words and halves in bytes. 01: "Numbers of several bytes are big-endian."
use Rattle.lib_base.proofs.Prelude.{◌≡◌, refl, [], ◌∷◌}
use Rattle.lib_word.specs.Word.{get_at, get, put, words, pile}
use Rattle.lib_word.specs.Halves.{swap_bytes, get_half, put_half}

-- 16,909,060 is 1, 2, 3, 4 by 256, and 84,281,096 is 5, 6, 7, 8
pub two_words : words (1 ∷ 2 ∷ 3 ∷ 4 ∷ 5 ∷ 6 ∷ 7 ∷ 8 ∷ []) 0 2 ≡ 16909060 ∷ 84281096 ∷ []
unfolding words get get_at
two_words = refl

pub from_byte_3 : get_at (1 ∷ 2 ∷ 3 ∷ 4 ∷ 5 ∷ 6 ∷ 7 ∷ 8 ∷ []) 3 ≡ 67438087
unfolding get_at
from_byte_3 = refl

-- the last of the pile in front
pub piled : pile (1 ∷ 2 ∷ 3 ∷ 4 ∷ 5 ∷ 6 ∷ 7 ∷ 8 ∷ []) 0 2 ≡ 84281096 ∷ 16909060 ∷ []
unfolding pile get get_at
piled = refl

pub second_put : put (0 ∷ 0 ∷ 0 ∷ 0 ∷ 0 ∷ 0 ∷ 0 ∷ 0 ∷ 0 ∷ []) 1 84281096 ≡ 0 ∷ 0 ∷ 0 ∷ 0 ∷ 5 ∷ 6 ∷ 7 ∷ 8 ∷ 0 ∷ []
unfolding put
second_put = refl

pub swapped : swap_bytes 16909060 ≡ 67305985
unfolding swap_bytes
swapped = refl

pub halves : (get_half (9 ∷ 1 ∷ 2 ∷ []) 1 ≡ 258) × (put_half (9 ∷ 0 ∷ 0 ∷ 9 ∷ []) 1 258 ≡ 9 ∷ 1 ∷ 2 ∷ 9 ∷ [])
unfolding get_half put_half
halves = (refl, refl)
