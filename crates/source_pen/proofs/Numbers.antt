-- The digits of a number from the last to the first: each turn takes one off, and the digits of what is left stand
-- before those that are there. By the definition's recursion, which does not depend on its bound.
use Rattle.lib_base.proofs.Prelude.{ℕ, ◌≤◌, ◌<◌, ◌+◌, ◌-◌, suc, zero, ◌*◌, ◌%◌, ◌/◌, ◌≡◌, refl, ◌∙◌, sym, ap, List, []}
use Rattle.lib_base.proofs.Prelude.{◌∷◌, ◌++◌, append_assoc, append-nil, length, take, drop, length-set, set}
use Rattle.lib_base.proofs.Prelude.{length-drop, drop_of_length-le, get_or-set_same, drop-cons, take_all, ltb, add-one}
use Rattle.lib_base.proofs.Prelude.{le-ltb, lt-ltb, arith}
use lib.Seq.{drop-set-lt}
use Rattle.lib_base.specs.Basics.{pick}
use Rattle.source_rendering.specs.Describe.{digits_of, digits}

-- ---- the digits of a number and of its tenth

digits_bound : (k j n : ℕ) → n ≤ k → n ≤ j → digits_of k n ≡ digits_of j n
unfolding digits_of
digits_bound zero zero n h g = refl
digits_bound zero (suc j) n h g = rw (lt-ltb n 10 (omega arith))
digits_bound (suc k) zero n h g = rw (lt-ltb n 10 (omega arith))
digits_bound (suc k) (suc j) n h g =
    ap (λ (l : List ℕ). pick (ltb n 10) ((48 + n) ∷ []) (l ++ ((48 + n % 10) ∷ []))) (digits_bound k j (n / 10) (omega arith) (omega arith))

digit_one : (n : ℕ) → n < 10 → digits n ≡ (48 + n) ∷ []
unfolding digits_of
digit_one zero h = refl
digit_one (suc k) h = rw (lt-ltb (suc k) 10 h)

digits_split : (n : ℕ) → 10 ≤ n → digits n ≡ digits (n / 10) ++ ((48 + n % 10) ∷ [])
unfolding digits_of
digits_split zero h = absurd (omega arith)
digits_split (suc k) h =
    rw (le-ltb (suc k) 10 h)
    (ap (λ (l : List ℕ). l ++ ((48 + suc k % 10) ∷ [])) (digits_bound k (suc k / 10) (suc k / 10) (omega arith) (omega arith)))

-- ---- the loop

-- ten to so many
unfoldable pub tens : ℕ → ℕ
tens zero = 1
tens (suc k) = tens k * 10

-- the digits of n are those of m, which are at most i, and those behind place i
pub record Digits (n : ℕ) (text : List ℕ) (i m : ℕ) : Type 0 where
  pub whole : digits n ≡ digits m ++ drop (i + 1) text
  pub few : m < tens i
  pub some : 0 < i
  pub within : i ≤ 10
  pub long : length text ≡ 11

pub digits_start : (n : ℕ) (text : List ℕ) → n < 4294967296 → length text ≡ 11 → Digits n text 10 n
unfolding tens
digits_start n text h l =
    let g : length text ≤ 11 = omega arith in
    let e : drop 11 text ≡ [] = drop_of_length-le text g in
    record { whole = rw e (sym (append-nil (digits n))); few = omega arith; some = omega arith; within = omega arith; long = l }

tenth_few : (i m : ℕ) → 10 ≤ m → m < tens i → (1 < i) × (m / 10 < tens (i - 1))
unfolding tens
tenth_few zero m h g = absurd (omega arith)
tenth_few (suc zero) m h g = absurd (omega arith)
tenth_few (suc (suc k)) m h g = let e : suc (suc k) - 1 ≡ suc k = omega arith in (omega arith, rw e (omega arith))

-- a byte before those behind it
byte_before : (text : List ℕ) (i v : ℕ) → i < length text → drop i (set text i v) ≡ v ∷ drop (i + 1) text
byte_before text i v h =
    let g : i < length (set text i v) = rw length-set h in
    drop-cons (set text i v) i 0 g ∙ rw (get_or-set_same text i v 0 h, add-one, drop-set-lt (suc i) text i v (omega arith))

pub digits_turn : {n : ℕ} {text : List ℕ} {i m : ℕ} → Digits n text i m → 10 ≤ m → Digits n (set text i (48 + m % 10)) (i - 1) (m / 10)
digits_turn {n} {text} {i} {m} d h =
    let f = tenth_few i m h d.few in
    let w : i < length text = omega (arith, d.within, d.long) in
    let s : i - 1 + 1 ≡ i = omega arith in
    record {
      whole = rw (s, byte_before text i (48 + m % 10) w) (d.whole ∙ rw (digits_split m h) (append_assoc (digits (m / 10)) ((48 + m % 10) ∷ []) (drop (i + 1) text)));
      few = f.1;
      some = omega arith;
      within = omega (arith, d.within);
      long = rw length-set d.long;
    }

pub digits_end : {n : ℕ} {text : List ℕ} {i m : ℕ} → Digits n text i m → m < 10 → drop i (set text i (48 + m)) ≡ digits n
digits_end {n} {text} {i} {m} d h =
    let w : i < length text = omega (arith, d.within, d.long) in
    rw (byte_before text i (48 + m) w, d.whole, digit_one m h)

-- ---- the part of the buffer that they fill

part_all : (text : List ℕ) (r : ℕ) → length text ≡ 11 → take (11 - r) (drop r text) ≡ drop r text
part_all text r l = take_all (11 - r) (drop r text) (rw (length-drop r text, l) (omega arith))

pub part_digits : (text : List ℕ) (r n : ℕ) → length text ≡ 11 → drop r text ≡ digits n → take (11 - r) (drop r text) ≡ digits n
part_digits text r n l e = part_all text r l ∙ e

pub part_name : (text : List ℕ) (r letter n : ℕ) → length text ≡ 11 → 0 < r → r < 11 → drop r text ≡ digits n
    → take (11 - (r - 1)) (drop (r - 1) (set text (r - 1) letter)) ≡ letter ∷ digits n
part_name text r letter n l g h e =
    let b : r - 1 < length text = omega arith in
    let s : r - 1 + 1 ≡ r = omega arith in
    part_all (set text (r - 1) letter) (r - 1) (length-set text (r - 1) letter ∙ l)
    ∙ (byte_before text (r - 1) letter b ∙ rw s (ap (λ (m : List ℕ). letter ∷ m) e))
