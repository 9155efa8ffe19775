-- Words put one after the other: the length stays, and two lists are put in two goes. By induction on the list.
use Rattle.lib_base.proofs.Prelude.{ℕ, ◌+◌, suc, ◌≡◌, refl, ◌∙◌, List, [], ◌∷◌, ◌++◌, length, arith}
use Rattle.lib_word.specs.Word.{put}
use Rattle.lib_word.proofs.Laws.{length_put}
use Rattle.format_image.specs.Table.{put_words}

pub length_put_words : (l : List ℕ) (k : ℕ) (ws : List ℕ) → length (put_words l k ws) ≡ length l
unfolding put_words
length_put_words l k [] = refl
length_put_words l k (w ∷ ws) = length_put_words (put l k w) (k + 1) ws ∙ length_put l k w

pub put_words_append : (l : List ℕ) (k : ℕ) (xs ys : List ℕ) → put_words l k (xs ++ ys) ≡ put_words (put_words l k xs) (k + length xs) ys
unfolding put_words
put_words_append l k [] ys = let z : k + 0 ≡ k = omega arith in rw z
put_words_append l k (x ∷ xs) ys =
    let z : k + suc (length xs) ≡ k + 1 + length xs = omega arith in
    rw z (put_words_append (put l k x) (k + 1) xs ys)
