-- Reading after writing, byte by byte from the laws of `set`, and the words and halves put together by `omega`.
use Rattle.lib_base.proofs.Prelude.{subst, sym, ℕ, ◌≤◌, ◌<◌, ◌+◌, suc, zero, ◌*◌, ◌%◌, ◌/◌, ◌≡◌, refl, true, Bool, ◌≢◌, List, ◌∷◌}
use Rattle.lib_base.proofs.Prelude.{length, get_or, length-set, set, get_or-set_other, get_or-set_same, eqb, ltb, leb}
use Rattle.lib_base.proofs.Prelude.{add-one, eqb-true, eqb-false, ltb-true, leb-true, arith}
use Rattle.lib_base.specs.Basics.{pick}
use Rattle.lib_base.proofs.Tools.{by_test}
use Rattle.lib_word.specs.Word.{get_at, get, put, words, pile}
use Rattle.lib_word.specs.Halves.{put_half}

-- the round's bytes are all there
unfoldable pub long : List ℕ → Bool
long l = leb 2048 (length l)

pub length_put : (l : List ℕ) (k w : ℕ) → length (put l k w) ≡ length l
unfolding put
length_put l k w = simp length-set

pub long_put : (l : List ℕ) (k w : ℕ) → long (put l k w) ≡ long l
unfolding long
long_put l k w = rw length_put

-- a byte outside word k
byte_other : (l : List ℕ) (k w i : ℕ) → i ≢ k * 4 → i ≢ k * 4 + 1 → i ≢ k * 4 + 2 → i ≢ k * 4 + 3 → get_or (put l k w) i 0 ≡ get_or l i 0
unfolding put
byte_other l k w i a b c d = simp get_or-set_other

pub get_other : (l : List ℕ) (k w j : ℕ) → j ≢ k → get (put l k w) j ≡ get l j
unfolding get get_at
get_other l k w j n =
    let o = byte_other l k w in
    rw (
      o (j * 4) (omega arith) (omega arith) (omega arith) (omega arith),
      o (j * 4 + 1) (omega arith) (omega arith) (omega arith) (omega arith),
      o (j * 4 + 2) (omega arith) (omega arith) (omega arith) (omega arith),
      o (j * 4 + 3) (omega arith) (omega arith) (omega arith) (omega arith),
    )

module _ (l : List ℕ) (a x y z w : ℕ) (h : a + 4 ≤ length l) where
  abbrev four : List ℕ
  four = set (set (set (set l a x) (a + 1) y) (a + 2) z) (a + 3) w

  first : get_or four a 0 ≡ x
  first =
      let p : a ≢ a + 1 = omega arith in
      let q : a ≢ a + 2 = omega arith in
      let r : a ≢ a + 3 = omega arith in
      simp (get_or-set_other, get_or-set_same l a x 0 (omega arith))

  second : get_or four (a + 1) 0 ≡ y
  second =
      let q : a + 1 ≢ a + 2 = omega arith in
      let r : a + 1 ≢ a + 3 = omega arith in
      simp get_or-set_other (get_or-set_same (set l a x) (a + 1) y 0 (simp length-set (omega arith)))

  third : get_or four (a + 2) 0 ≡ z
  third =
      let r : a + 2 ≢ a + 3 = omega arith in
      simp get_or-set_other (get_or-set_same (set (set l a x) (a + 1) y) (a + 2) z 0 (simp length-set (omega arith)))

  fourth : get_or four (a + 3) 0 ≡ w
  fourth = get_or-set_same (set (set (set l a x) (a + 1) y) (a + 2) z) (a + 3) w 0 (simp length-set (omega arith))

pub get_same : (l : List ℕ) (k w : ℕ) → k * 4 + 4 ≤ length l → get (put l k w) k ≡ w
unfolding get get_at put
get_same l k w h =
    rw (
      first l (k * 4) (w / 16777216) (w / 65536 % 256) (w / 256 % 256) (w % 256) h,
      second l (k * 4) (w / 16777216) (w / 65536 % 256) (w / 256 % 256) (w % 256) h,
      third l (k * 4) (w / 16777216) (w / 65536 % 256) (w / 256 % 256) (w % 256) h,
      fourth l (k * 4) (w / 16777216) (w / 65536 % 256) (w / 256 % 256) (w % 256) h,
    ) (omega arith)

-- one law for both: `eqb` computes at numerals, so `simp` follows any number of writes at fixed places
pub get_put : (l : List ℕ) (k w j : ℕ) → long l ≡ true → ltb k 512 ≡ true → get (put l k w) j ≡ pick (eqb j k) w (get l j)
unfolding long
get_put l k w j h b =
    by_test (λ x. get (put l k w) j ≡ x) (eqb j k)
    (λ e. rw (eqb-true j k e) (get_same l k w (omega (arith, leb-true, ltb-true))))
    (λ e. get_other l k w j (eqb-false j k e))

-- a stretch of n words from a on, after a write outside it
pub words_out : (l : List ℕ) (k w a n : ℕ) → ((j : ℕ) → a ≤ j → j < a + n → j ≢ k) → words (put l k w) a n ≡ words l a n
unfolding words
words_out l k w a zero h = refl
words_out l k w a (suc n) h = rw (get_other l k w a (h a (omega arith) (omega arith)), words_out l k w (suc a) n (λ j p q. h j (omega arith) (omega arith)))

-- and inside it
pub words_in : (l : List ℕ) (a n i w : ℕ) → long l ≡ true → a + n ≤ 512 → i < n → words (put l (a + i) w) a n ≡ set (words l a n) i w
unfolding words long
words_in l a zero i w h b c = absurd (omega arith)
words_in l a (suc n) zero w h b c =
    let z : a + 0 ≡ a = omega arith in
    subst (λ k. words (put l k w) a (suc n) ≡ set (words l a (suc n)) 0 w) (sym z)
    (rw (get_same l a w (omega (arith, leb-true)), words_out l a w (suc a) n (omega arith)))
words_in l a (suc n) (suc i) w h b c =
    let z : a + suc i ≡ suc a + i = omega arith in
    subst (λ k. words (put l k w) a (suc n) ≡ set (words l a (suc n)) (suc i) w) (sym z)
    (rw (get_other l (suc a + i) w a (omega arith), words_in l (suc a) n i w h (omega arith) (omega arith)))

-- a stack, after a write outside it or above it
pub pile_out : (l : List ℕ) (k w a n : ℕ) → ((j : ℕ) → a ≤ j → j < a + n → j ≢ k) → pile (put l k w) a n ≡ pile l a n
unfolding pile
pile_out l k w a zero h = refl
pile_out l k w a (suc n) h = rw (get_other l k w (a + n) (h (a + n) (omega arith) (omega arith)), pile_out l k w a n (λ j p q. h j p (omega arith)))

pub pile_push : (l : List ℕ) (a n w : ℕ) → long l ≡ true → a + n < 512 → pile (put l (a + n) w) a (n + 1) ≡ w ∷ pile l a n
unfolding pile long
pile_push l a n w h b = rw (add-one n, get_same l (a + n) w (omega (arith, leb-true)), pile_out l (a + n) w a n (omega arith))

-- one word of a stretch
pub words_get : (l : List ℕ) (a n i : ℕ) → i < n → get_or (words l a n) i 0 ≡ get l (a + i)
unfolding words
words_get l a zero i h = absurd (omega arith)
words_get l a (suc n) zero h = let z : a + 0 ≡ a = omega arith in rw z
words_get l a (suc n) (suc i) h = let z : a + suc i ≡ suc a + i = omega arith in rw z (words_get l (suc a) n i (omega arith))
