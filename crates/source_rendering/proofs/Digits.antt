-- The digits that a number is written in stand for it, are digits, and are few: by induction on the bound.
use Rattle.lib_base.proofs.Prelude.{ℕ, ◌≤◌, ◌<◌, ◌+◌, ◌-◌, suc, zero, ◌*◌, ◌%◌, ◌/◌, ◌≡◌, refl, ◌∙◌, sym, ap, true}
use Rattle.lib_base.proofs.Prelude.{List, [], ◌∷◌, ◌++◌, length, length-append, ltb, ltb-false, ltb-true, le-leb, arith}
use Rattle.lib_base.proofs.Tools.{by_test, all_join}
use Rattle.text_formula.specs.Tokens.{decimal_value}
use Rattle.source_language.specs.Tokens.{is_digit, Are}
use Rattle.source_rendering.specs.Describe.{digits_of, digits}

digit_true : (n : ℕ) → n < 10 → is_digit (48 + n) ≡ true
unfolding is_digit
digit_true n h = rw (le-leb 48 (48 + n) (omega arith), le-leb (48 + n) 57 (omega arith))

decimal_joins : (a d : ℕ) (l : List ℕ) → decimal_value a (l ++ (d ∷ [])) ≡ decimal_value a l * 10 + (d - 48)
unfolding decimal_value
decimal_joins a d [] = refl
decimal_joins a d (b ∷ l) = decimal_joins (a * 10 + (b - 48)) d l

digits_are : (k n : ℕ) → n ≤ k → Are is_digit (digits_of k n)
unfolding digits_of
digits_are zero n h = (digit_true n (omega arith), tt)
digits_are (suc k) n h =
    by_test (Are is_digit) (ltb n 10) (λ e. (digit_true n (ltb-true n 10 e), tt))
    (λ e. all_join (λ b. is_digit b ≡ true) (digits_of k (n / 10)) ((48 + n % 10) ∷ []) (digits_are k (n / 10) (omega (arith, ltb-false n 10 e)))
    (digit_true (n % 10) (omega arith), tt))

digits_say : (k n : ℕ) → n ≤ k → decimal_value 0 (digits_of k n) ≡ n
unfolding digits_of decimal_value
digits_say zero n h = omega arith
digits_say (suc k) n h =
    by_test (λ (l : List ℕ). decimal_value 0 l ≡ n) (ltb n 10) (λ e. omega arith)
    (λ e. decimal_joins 0 (48 + n % 10) (digits_of k (n / 10)) ∙ rw (digits_say k (n / 10) (omega (arith, ltb-false n 10 e))) (omega arith))

digits_some : (k n : ℕ) → 0 < length (digits_of k n)
unfolding digits_of
digits_some zero n = omega arith
digits_some (suc k) n =
    by_test (λ (l : List ℕ). 0 < length l) (ltb n 10) (λ e. omega arith) (λ e. omega (arith, length-append (digits_of k (n / 10)) ((48 + n % 10) ∷ [])))

pub are_digits : (n : ℕ) → Are is_digit (digits n)
are_digits n = digits_are n n (omega arith)

pub say_number : (n : ℕ) → decimal_value 0 (digits n) ≡ n
say_number n = digits_say n n (omega arith)

pub some_digits : (n : ℕ) → 0 < length (digits n)
some_digits n = digits_some n n

-- the same digits, the same number
pub digits_own : (m n : ℕ) → digits m ≡ digits n → m ≡ n
digits_own m n e = sym (say_number m) ∙ (ap (decimal_value 0) e ∙ say_number n)

-- one digit below 10; one more for each ten times as much
digits_one : (k n : ℕ) → n < 10 → length (digits_of k n) ≤ 1
unfolding digits_of
digits_one zero n h = omega arith
digits_one (suc k) n h = by_test (λ (l : List ℕ). length l ≤ 1) (ltb n 10) (λ e. omega arith) (λ e. absurd (omega (arith, ltb-false n 10 e)))

digits_more : (top w : ℕ) → ((k n : ℕ) → n < top → length (digits_of k n) ≤ w) → (k n : ℕ) → n < top * 10 → length (digits_of k n) ≤ suc w
unfolding digits_of
digits_more top w f zero n h = omega arith
digits_more top w f (suc k) n h =
    by_test (λ (l : List ℕ). length l ≤ suc w) (ltb n 10) (λ e. omega arith)
    (λ e. omega (arith, length-append (digits_of k (n / 10)) ((48 + n % 10) ∷ []), f k (n / 10) (omega arith)))

digits_two : (k n : ℕ) → n < 100 → length (digits_of k n) ≤ 2
digits_two = digits_more 10 1 digits_one

digits_four : (k n : ℕ) → n < 10000 → length (digits_of k n) ≤ 4
digits_four = digits_more 1000 3 (digits_more 100 2 digits_two)

digits_seven : (k n : ℕ) → n < 10000000 → length (digits_of k n) ≤ 7
digits_seven = digits_more 1000000 6 (digits_more 100000 5 (digits_more 10000 4 digits_four))

digits_ten : (k n : ℕ) → n < 10000000000 → length (digits_of k n) ≤ 10
digits_ten = digits_more 1000000000 9 (digits_more 100000000 8 (digits_more 10000000 7 digits_seven))

pub one_digit : (n : ℕ) → n < 10 → length (digits n) ≤ 1
one_digit n h = digits_one n n h

pub few_digits : (n : ℕ) → n < 100 → length (digits n) ≤ 2
few_digits n h = digits_two n n h

pub ten_digits : (n : ℕ) → n ≤ 2147483648 → length (digits n) ≤ 10
ten_digits n h = digits_ten n n (omega arith)
