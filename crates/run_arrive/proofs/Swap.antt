-- The number taken in and the count of those that wait are different words: in which order they are written makes no
-- difference.
use Rattle.lib_base.proofs.Prelude.{ℕ, ◌+◌, ◌*◌, ◌/◌, ◌%◌, suc, zero, ◌≡◌, refl, ◌∙◌, sym, ◌≢◌, List, [], ◌∷◌, set, ap, arith}
use Rattle.lib_word.specs.Word.{put}

set_swap : (l : List ℕ) (i j a b : ℕ) → i ≢ j → set (set l i a) j b ≡ set (set l j b) i a
set_swap [] i j a b n = refl
set_swap (x ∷ l) zero zero a b n = absurd (n refl)
set_swap (x ∷ l) zero (suc j) a b n = refl
set_swap (x ∷ l) (suc i) zero a b n = refl
set_swap (x ∷ l) (suc i) (suc j) a b n = ap (λ m. x ∷ m) (set_swap l i j a b (λ e. n (ap suc e)))

-- a byte outside the word that begins at byte j
set_four : (l : List ℕ) (j x y z w i a : ℕ) → i ≢ j → i ≢ j + 1 → i ≢ j + 2 → i ≢ j + 3
    → set (set (set (set (set l i a) j x) (j + 1) y) (j + 2) z) (j + 3) w ≡ set (set (set (set (set l j x) (j + 1) y) (j + 2) z) (j + 3) w) i a
set_four l j x y z w i a p q r s =
    rw (
      set_swap l i j a x p,
      set_swap (set l j x) i (j + 1) a y q,
      set_swap (set (set l j x) (j + 1) y) i (j + 2) a z r,
      set_swap (set (set (set l j x) (j + 1) y) (j + 2) z) i (j + 3) a w s,
    )

set_put : (l : List ℕ) (w i a : ℕ) → i ≢ 4 → i ≢ 5 → i ≢ 6 → i ≢ 7 → put (set l i a) 1 w ≡ set (put l 1 w) i a
unfolding put
set_put l w i a p q r s = set_four l 4 (w / 16777216) (w / 65536 % 256) (w / 256 % 256) (w % 256) i a p q r s

-- word 0 by its bytes
first_word : (l : List ℕ) (w : ℕ) → put l 0 w ≡ set (set (set (set l 0 (w / 16777216)) 1 (w / 65536 % 256)) 2 (w / 256 % 256)) 3 (w % 256)
unfolding put
first_word l w = refl

pub count_then_taken : (l : List ℕ) (n k : ℕ) → put (put l 1 n) 0 k ≡ put (put l 0 k) 1 n
count_then_taken l n k =
    let x = k / 16777216 in
    let y = k / 65536 % 256 in
    let z = k / 256 % 256 in
    let w = k % 256 in
    rw (
      first_word (put l 1 n) k,
      first_word l k,
      set_put (set (set (set l 0 x) 1 y) 2 z) n 3 w (omega arith) (omega arith) (omega arith) (omega arith),
      set_put (set (set l 0 x) 1 y) n 2 z (omega arith) (omega arith) (omega arith) (omega arith),
      set_put (set l 0 x) n 1 y (omega arith) (omega arith) (omega arith) (omega arith),
      set_put l n 0 x (omega arith) (omega arith) (omega arith) (omega arith),
    )
