-- A need is met in the set exactly if it is marked: the bits of what row and set share are those of the row. Equal bits
-- make equal numbers.
use Rattle.lib_base.proofs.Prelude.{ℕ, ◌≤◌, ◌<◌, ◌+◌, suc, zero, ◌*◌, ◌%◌, ◌/◌, ◌^◌, ◌≡◌, refl, ◌∙◌, sym, ap, true}
use Rattle.lib_base.proofs.Prelude.{false, Bool, ◌||◌, true≢false, ◌&&◌, not, or-false, or-true, ◌≢◌, by_cases, List}
use Rattle.lib_base.proofs.Prelude.{length, get_or, length-set, set, get_or-set_other, get_or-set_same, ext_get_or, eqb}
use Rattle.lib_base.proofs.Prelude.{pow-suc, dec_lt, eqb-true, eqb-false, arith}
use native.Mathlib.Nat.{pow-succ', div-div-eq-div-mul}
use lib.Bits.{bit_and, and_le_l}
use Rattle.lib_base.specs.Basics.{pick}
use Rattle.lib_base.proofs.Tools.{split}
use Rattle.lib_bits.specs.Bits.{bit}
use Rattle.lib_bits.proofs.BitLaws.{bit_of_and}
use Rattle.spec_language.specs.Code.{one?}
use Rattle.spec_language.proofs.Laws.{length_up_to, get_d_up_to}
use Rattle.check_graph.specs.Matrix.{cell}
use Rattle.check_graph.specs.Placing.{lacks_need, met_on, ready_on, is_marked}
use Rattle.check_graph.specs.Sets.{ready_set, bytes_of, marks_of}

-- ---- equal bits, equal numbers

digit : (x y : ℕ) → x < 2 → y < 2 → eqb x 1 ≡ eqb y 1 → x ≡ y
digit zero zero h k e = refl
digit zero (suc zero) h k e = absurd (true≢false (sym e))
digit (suc zero) zero h k e = absurd (true≢false e)
digit (suc zero) (suc zero) h k e = refl
digit zero (suc (suc y)) h k e = absurd (omega arith)
digit (suc zero) (suc (suc y)) h k e = absurd (omega arith)
digit (suc (suc x)) y h k e = absurd (omega arith)

bit_next : (a j : ℕ) → bit a (suc j) ≡ bit (a / 2) j
unfolding bit
bit_next a j = let q : a / 2 ^ suc j ≡ a / 2 / 2 ^ j = ap (λ (x : ℕ). a / x) (pow-succ' 2 j) ∙ sym (div-div-eq-div-mul a 2 (2 ^ j)) in ap (λ (x : ℕ). eqb (x % 2) 1) q

bit_zero : (a : ℕ) → bit a 0 ≡ eqb (a % 2) 1
unfolding bit
bit_zero a = let z : a / 2 ^ 0 ≡ a = omega arith in rw z

bits_same : (k a b : ℕ) → a < 2 ^ k → b < 2 ^ k → ((j : ℕ) → bit a j ≡ bit b j) → a ≡ b
bits_same zero a b h l e = omega arith
bits_same (suc k) a b h l e =
    let x : a / 2 ≡ b / 2 = bits_same k (a / 2) (b / 2) (omega (arith, pow-suc 2 k)) (omega (arith, pow-suc 2 k)) (λ j. sym (bit_next a j) ∙ e (suc j) ∙ bit_next b j) in
    let y : a % 2 ≡ b % 2 = digit (a % 2) (b % 2) (omega arith) (omega arith) (sym (bit_zero a) ∙ e 0 ∙ bit_zero b) in
    omega arith

pub bits_none : (k a : ℕ) → a < 2 ^ k → ((j : ℕ) → j < k → bit a j ≡ false) → a ≡ 0
bits_none zero a h e = omega arith
bits_none (suc k) a h e =
    let x : a / 2 ≡ 0 = bits_none k (a / 2) (omega (arith, pow-suc 2 k)) (λ j b. sym (bit_next a j) ∙ e (suc j) (omega arith)) in
    let y : a % 2 ≡ 0 = digit (a % 2) 0 (omega arith) (omega arith) (sym (bit_zero a) ∙ e 0 (omega arith)) in
    omega arith

-- ---- the bytes and the marks

one_zero : (b : Bool) → eqb (one? b) 0 ≡ not b
one_zero true = refl
one_zero false = refl

pub bytes_at : (rows : List ℕ) (i j : ℕ) → i < 64 → j < 64 → get_or (bytes_of rows) (i * 64 + j) 0 ≡ one? (bit (get_or rows i 0) j)
unfolding bytes_of
bytes_at rows i j h k =
    let a : (i * 64 + j) / 64 ≡ i = omega arith in
    let b : (i * 64 + j) % 64 ≡ j = omega arith in
    let s : i * 64 + j < 4096 = omega arith in
    get_d_up_to 4096 (λ x. one? (bit (get_or rows (x / 64) 0) (x % 64))) (i * 64 + j) 0 s ∙ rw (a, b)

pub length_bytes : (rows : List ℕ) → length (bytes_of rows) ≡ 4096
unfolding bytes_of
length_bytes rows = length_up_to 4096 _

pub marks_at : (s j : ℕ) → j < 64 → get_or (marks_of s) j 0 ≡ one? (bit s j)
unfolding marks_of
marks_at s j h = get_d_up_to 64 (λ i. one? (bit s i)) j 0 h

pub length_marks : (s : ℕ) → length (marks_of s) ≡ 64
unfolding marks_of
length_marks s = length_up_to 64 _

not-not : (b : Bool) → not (not b) ≡ b
not-not true = refl
not-not false = refl

pub cell_bytes_law : (rows : List ℕ) (i j : ℕ) → i < 64 → j < 64 → cell (bytes_of rows) i j ≡ bit (get_or rows i 0) j
cell_bytes_law rows i j h k = rw (bytes_at rows i j h k, one_zero) (not-not (bit (get_or rows i 0) j))

pub marked_is : (s j : ℕ) → j < 64 → is_marked (marks_of s) j ≡ bit s j
marked_is s j h = rw (marks_at s j h, one_zero) (not-not (bit s j))

-- one more in the set is one more mark
pub marks_set : (s s' i : ℕ) → i < 64 → ((j : ℕ) → bit s' j ≡ bit s j || eqb j i) → set (marks_of s) i 1 ≡ marks_of s'
marks_set s s' i h e =
    ext_get_or 0 (set (marks_of s) i 1) (marks_of s') (rw length-set (length_marks s ∙ sym (length_marks s')))
    (λ j b. let c : j < 64 = omega (arith, rw length-set at b, length_marks s) in rw (marks_at s' j c, e j) (at j c))
  where
    at : (j : ℕ) → j < 64 → get_or (set (marks_of s) i 1) j 0 ≡ one? (bit s j || eqb j i)
    at j c =
        split (eqb j i)
        (λ t. rw (t, or-true (bit s j), eqb-true j i t) (get_or-set_same (marks_of s) i 1 0 (omega (arith, length_marks s))))
        (λ t. let d : j ≢ i = eqb-false j i t in rw (t, or-false (bit s j)) (get_or-set_other (marks_of s) i j 1 0 d ∙ marks_at s j c))

-- ---- what is met

module _ (rows : List ℕ) (s i : ℕ) (h : i < 64) where
  abbrev row : ℕ
  row = get_or rows i 0

  lacks_is : (j : ℕ) → j < 64 → lacks_need (bytes_of rows) (marks_of s) i j ≡ bit row j && not (bit s j)
  unfolding lacks_need
  lacks_is j k = rw (bytes_at rows i j h k, marks_at s j k, one_zero (bit row j), one_zero (bit s j)) (test (bit row j) (bit s j))
    where
      test : (a b : Bool) → pick (not a) false (not b) ≡ a && not b
      test true b = refl
      test false b = refl

  met_all : (k : ℕ) → k ≤ 64 → ((j : ℕ) → j < k → bit row j && not (bit s j) ≡ false) → met_on (bytes_of rows) (marks_of s) i k ≡ true
  unfolding met_on
  met_all zero l e = refl
  met_all (suc k) l e = rw (lacks_is k (omega arith), e k (omega arith), met_on) (met_all k (omega arith) (λ j b. e j (omega arith)))

  met_says : (k : ℕ) → k ≤ 64 → met_on (bytes_of rows) (marks_of s) i k ≡ true → (j : ℕ) → j < k → bit row j && not (bit s j) ≡ false
  unfolding met_on
  met_says zero l e j b = absurd (omega arith)
  met_says (suc k) l e j b =
      split (bit row k && not (bit s k))
      (λ t. absurd (true≢false (sym e ∙ rw (lacks_is k (omega arith), t, met_on))))
      (λ t. by_cases (dec_lt j k)
      (λ p. met_says k (omega arith) (sym (rw (lacks_is k (omega arith), t, met_on)) ∙ e) j p)
      (λ p. let q : j ≡ k = omega arith in rw q t))

  module _ (n : ℕ) (few : n ≤ 64) (fits : row < 2 ^ 64) (past : (j : ℕ) → n ≤ j → bit row j ≡ false) where
    within : bit_and row s ≡ row → (j : ℕ) → bit row j && not (bit s j) ≡ false
    within e j = two (bit row j) (bit s j) (sym (ap (λ (x : ℕ). bit x j) e) ∙ bit_of_and row s j)
      where
        two : (a b : Bool) → a ≡ a && b → a && not b ≡ false
        two true true q = refl
        two true false q = cc
        two false b q = refl

    shared : ((j : ℕ) → j < n → bit row j && not (bit s j) ≡ false) → bit_and row s ≡ row
    shared e =
        bits_same 64 (bit_and row s) row (omega (arith, and_le_l row s)) fits
        (λ j. bit_of_and row s j ∙ by_cases (dec_lt j n) (λ p. three (bit row j) (bit s j) (e j p)) (λ p. rw (past j (omega arith))))
      where
        three : (a b : Bool) → a && not b ≡ false → a && b ≡ a
        three true true q = refl
        three true false q = cc
        three false b q = refl

    met_is : eqb (bit_and row s) row ≡ met_on (bytes_of rows) (marks_of s) i n
    met_is =
        split (eqb (bit_and row s) row)
        (λ t. t ∙ sym (met_all n few (λ j b. within (eqb-true (bit_and row s) row t) j)))
        (λ t. split (met_on (bytes_of rows) (marks_of s) i n)
        (λ m. absurd (eqb-false (bit_and row s) row t (shared (met_says n few m))))
        (λ m. t ∙ sym m))

    pub ready_is : ready_set row s i ≡ ready_on (bytes_of rows) (marks_of s) n i
    unfolding ready_set ready_on
    ready_is = rw (marks_at s i h, one_zero, met_is) (swap (bit s i) (met_on (bytes_of rows) (marks_of s) i n))
      where
        swap : (a b : Bool) → pick a false b ≡ pick (not a) b false
        swap true b = refl
        swap false b = refl
