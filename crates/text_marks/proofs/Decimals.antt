-- Digits and numbers: the tests on a digit agree, and what the loop over digits keeps, that the rest of them gives the
-- whole.
use Rattle.lib_base.proofs.Prelude.{ℕ, ◌≤◌, ◌<◌, ◌+◌, ◌-◌, suc, ◌*◌, ◌≡◌, refl, ◌∙◌, sym, ap, true, false, true≢false}
use Rattle.lib_base.proofs.Prelude.{List, [], ◌∷◌, length, get_or, drop, drop_of_length-le, drop-cons, ltb, leb, add-one}
use Rattle.lib_base.proofs.Prelude.{le-ltb, ltb-false, ltb-true, leb-true, arith}
use Rattle.lib_base.proofs.Tools.{by_test, split}
use Rattle.text_formula.specs.Tokens.{decimal_value}
use Rattle.std.specs.Prelude.{Some, None}
use Rattle.text_marks.specs.Digits.{is_decimal, digit_found, leading_digits, capped_to}

-- ---- a digit

pub decimal_bounds : (b : ℕ) → is_decimal b ≡ true → (48 ≤ b) × (b ≤ 57)
unfolding is_decimal
decimal_bounds b =
    split (leb 48 b)
    (λ e. rw e (λ h. (leb-true 48 b e, leb-true b 57 h)))
    (λ e. rw e (λ h. absurd (true≢false (sym h))))

pub digit_some : (b d : ℕ) → Some d ≡ digit_found b → (is_decimal b ≡ true) × (d ≡ b - 48)
unfolding digit_found
digit_some b d =
    split (is_decimal b) (λ e. rw e (λ h. (refl, cc)))
    (λ e. rw e (λ h. let z : ◌≡◌ {A = ℕ} 0 1 = cc in absurd (omega arith)))

pub digit_none : (b : ℕ) → None ≡ digit_found b → is_decimal b ≡ false
unfolding digit_found
digit_none b =
    split (is_decimal b) (λ e. rw e (λ h. let z : ◌≡◌ {A = ℕ} 0 1 = cc in absurd (omega arith)))
    (λ e. rw e (λ h. refl))

-- ---- a number

pub capped_to_law : (limit v : ℕ) → capped_to limit v ≤ limit
capped_to_law limit v = by_test (λ x. x ≤ limit) (ltb v limit) (λ e. omega (arith, ltb-true v limit e)) (λ e. omega arith)

capped_digit : (limit v d : ℕ) → capped_to limit (capped_to limit v * 10 + d) ≡ capped_to limit (v * 10 + d)
capped_digit limit v d =
    by_test (λ x. capped_to limit (x * 10 + d) ≡ capped_to limit (v * 10 + d)) (ltb v limit) (λ e. refl)
    (λ e. rw (le-ltb (limit * 10 + d) limit (omega arith), le-ltb (v * 10 + d) limit (omega (arith, ltb-false v limit e))))

digits_on : (b : ℕ) (bs : List ℕ) → is_decimal b ≡ true → leading_digits (b ∷ bs) ≡ b ∷ leading_digits bs
unfolding leading_digits
digits_on b bs e = rw e

digits_off : (b : ℕ) (bs : List ℕ) → is_decimal b ≡ false → leading_digits (b ∷ bs) ≡ []
unfolding leading_digits
digits_off b bs e = rw e

pub digits_short : (bs : List ℕ) → length (leading_digits bs) ≤ length bs
unfolding leading_digits
digits_short [] = omega arith
digits_short (b ∷ bs) = split (is_decimal b) (λ e. rw e (omega (arith, digits_short bs))) (λ e. rw e (omega arith))

-- what the loop keeps: the number so far, as far as it counts, and that the rest of the digits gives the whole
pub record DigitsSoFar (limit : ℕ) (text : List ℕ) (at n i : ℕ) : Type 0 where
  pub value : ℕ
  pub whole : decimal_value 0 (leading_digits (drop at text)) ≡ decimal_value value (leading_digits (drop i text))
  pub so_far : n ≡ capped_to limit value
  pub passed : at + length (leading_digits (drop at text)) ≡ i + length (leading_digits (drop i text))
  pub inside : i ≤ length text

module _ (limit : ℕ) (text : List ℕ) where
  pub digits_start : (at : ℕ) → at ≤ length text → DigitsSoFar limit text at 0 at
  digits_start at h = record { value = 0; whole = refl; so_far = zero_capped; passed = refl; inside = h }
    where
      zero_capped : 0 ≡ capped_to limit 0
      zero_capped = by_test (λ x. 0 ≡ x) (ltb 0 limit) (λ e. refl) (λ e. omega (arith, ltb-false 0 limit e))

  module _ {at n i : ℕ} (s : DigitsSoFar limit text at n i) where
    pub digits_most : n ≤ limit
    digits_most = rw s.so_far (capped_to_law limit s.value)

    pub digits_turn : (r : ℕ) → i < length text → is_decimal (get_or text i 0) ≡ true → r ≡ capped_to limit (n * 10 + (get_or text i 0 - 48))
        → DigitsSoFar limit text at r (i + 1)
    unfolding decimal_value
    digits_turn r h e q =
        let on : leading_digits (drop i text) ≡ get_or text i 0 ∷ leading_digits (drop (suc i) text) =
        rw (drop-cons text i 0 h) (digits_on (get_or text i 0) (drop (suc i) text) e) in
        record {
          value = s.value * 10 + (get_or text i 0 - 48);
          whole = s.whole ∙ rw (on, add-one i);
          so_far = q ∙ rw s.so_far (capped_digit limit s.value (get_or text i 0 - 48));
          passed = s.passed ∙ rw (on, add-one i) (omega arith);
          inside = omega arith;
        }

    -- the answer at the end of the digits
    abbrev Answered : Type 0
    Answered = (n ≡ capped_to limit (decimal_value 0 (leading_digits (drop at text)))) × ((n ≤ limit) × (i ≡ at + length (leading_digits (drop at text))))

    ended : leading_digits (drop i text) ≡ [] → Answered
    unfolding decimal_value
    ended e = (rw (s.whole, e) s.so_far, (digits_most, omega (arith, s.passed, ap length e)))

    pub digits_stop : i < length text → is_decimal (get_or text i 0) ≡ false → Answered
    digits_stop h e = ended (rw (drop-cons text i 0 h) (digits_off (get_or text i 0) (drop (suc i) text) e))

    pub digits_end : length text ≤ i → Answered
    unfolding leading_digits
    digits_end h = ended (rw (drop_of_length-le text h))
