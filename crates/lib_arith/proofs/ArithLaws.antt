-- Words and the numbers that they stand for: a word comes back, and it is true unless it is 0; which numbers differ
-- from their word's reading, and what an answer with a mark says. By the two cases of `signed`.
use Rattle.lib_base.proofs.Prelude.{ℕ, ◌≤◌, ◌<◌, ◌-◌, ◌%◌, ◌^◌, ◌≡◌, refl, ◌∙◌, sym, true, false, Bool, ◌||◌, not, ◌≢◌}
use Rattle.lib_base.proofs.Prelude.{eqb, ltb, ne_eqb, le-ltb, lt-ltb, ltb-false, ltb-true, arith}
use Rattle.std.proofs.Common.{ℤ, pos, negsuc}
use lib.Signed.{lt_z}
use Rattle.lib_base.proofs.Tools.{by_test, split}
use Rattle.lib_signature.specs.Numbers.{not_fn, if_fn, or_fn, and_fn, add_fn, subtract_fn, multiply_fn, divide_fn, above_fn, at_least_fn, below_fn, at_most_fn, equal_fn, unequal_fn}
use Rattle.lib_arith.specs.Exact.{signed, wrapped, beyond}
use Rattle.lib_arith.specs.Marked.{packed, marked_result}
use Rattle.lib_arith.specs.Functions.{is_true, truth, exact, result_of, over}

-- a word stands for a number whose word it is
pub wrapped_signed : (a : ℕ) → a < 2 ^ 32 → wrapped (signed a) ≡ a
wrapped_signed a h =
    by_test (λ z. wrapped z ≡ a) (ltb a (2 ^ 31))
    (λ e. omega arith)
    (λ e. omega (arith, ltb-false a (2 ^ 31) e))

-- a word is true unless it is 0
pub is_true_signed : (a : ℕ) → is_true (signed a) ≡ not (eqb a 0)
is_true_signed a =
    by_test (λ z. is_true z ≡ not (eqb a 0)) (ltb a (2 ^ 31))
    (λ e. refl)
    (λ e. rw (ne_eqb a 0 (omega (arith, ltb-false a (2 ^ 31) e))))

-- ---- which numbers differ from their word's reading: those of 2^31 and more, and those below -2^31

pub beyond_pos : (n : ℕ) → beyond (pos n) ≡ ltb 2147483647 n
unfolding beyond
beyond_pos n =
    by_test (λ z. (lt_z (pos n) z || lt_z z (pos n)) ≡ ltb 2147483647 n) (ltb (n % 2 ^ 32) (2 ^ 31))
    (λ e. split (ltb 2147483647 n)
    (λ t. rw (t, le-ltb n (n % 2 ^ 32) (omega arith), lt-ltb (n % 2 ^ 32) n (omega (arith, ltb-true (n % 2 ^ 32) (2 ^ 31) e, ltb-true 2147483647 n t))))
    (λ t. rw (t, le-ltb n (n % 2 ^ 32) (omega arith), le-ltb (n % 2 ^ 32) n (omega (arith, ltb-false 2147483647 n t)))))
    (λ e. sym (lt-ltb 2147483647 n (omega (arith, ltb-false (n % 2 ^ 32) (2 ^ 31) e))))

pub beyond_neg : (n : ℕ) → beyond (negsuc n) ≡ ltb 2147483647 n
unfolding beyond
beyond_neg n =
    let w : ℕ = 2 ^ 32 - 1 - n % 2 ^ 32 in
    by_test (λ z. (lt_z (negsuc n) z || lt_z z (negsuc n)) ≡ ltb 2147483647 n) (ltb w (2 ^ 31))
    (λ e. sym (lt-ltb 2147483647 n (omega (arith, ltb-true w (2 ^ 31) e))))
    (λ e. split (ltb 2147483647 n)
    (λ t. rw (t, lt-ltb (2 ^ 32 - 1 - w) n (omega (arith, ltb-false w (2 ^ 31) e, ltb-true 2147483647 n t))))
    (λ t. rw (t, le-ltb n (2 ^ 32 - 1 - w) (omega arith), le-ltb (2 ^ 32 - 1 - w) n (omega (arith, ltb-false 2147483647 n t)))))

-- what a word stands for is not one of them, nor is what a test gives
pub word_within : (a : ℕ) → a < 2 ^ 32 → beyond (signed a) ≡ false
word_within a h =
    by_test (λ z. beyond z ≡ false) (ltb a (2 ^ 31))
    (λ e. beyond_pos a ∙ le-ltb 2147483647 a (omega (arith, ltb-true a (2 ^ 31) e)))
    (λ e. beyond_neg (2 ^ 32 - 1 - a) ∙ le-ltb 2147483647 (2 ^ 32 - 1 - a) (omega (arith, ltb-false a (2 ^ 31) e)))

pub truth_within : (t : Bool) → beyond (truth t) ≡ false
truth_within true = beyond_pos 1
truth_within false = beyond_pos 0

-- so no function but `+`, `-`, `*` and `/` runs over
pub within_others : (f a b c : ℕ) → b < 2 ^ 32 → c < 2 ^ 32 → f ≢ add_fn → f ≢ subtract_fn → f ≢ multiply_fn → f ≢ divide_fn → over f a b c ≡ false
unfolding over exact
within_others f a b c hb hc n4 n5 n6 n7 =
    let P : ℤ → Type 0 = λ z. beyond z ≡ false in
    rw (ne_eqb f add_fn n4, ne_eqb f subtract_fn n5, ne_eqb f multiply_fn n6, ne_eqb f divide_fn n7)
    (by_test P (eqb f or_fn) (λ _. simp truth_within)
    (λ _. by_test P (eqb f and_fn) (λ _. simp truth_within)
    (λ _. by_test P (eqb f not_fn) (λ _. simp truth_within)
    (λ _. by_test P (eqb f above_fn) (λ _. simp truth_within)
    (λ _. by_test P (eqb f at_least_fn) (λ _. simp truth_within)
    (λ _. by_test P (eqb f below_fn) (λ _. simp truth_within)
    (λ _. by_test P (eqb f at_most_fn) (λ _. simp truth_within)
    (λ _. by_test P (eqb f equal_fn) (λ _. simp truth_within)
    (λ _. by_test P (eqb f unequal_fn) (λ _. simp truth_within)
    (λ _. by_test P (eqb f if_fn)
    (λ _. by_test P (is_true (signed a)) (λ _. word_within b hb) (λ _. word_within c hc))
    (λ _. beyond_pos 0)))))))))))

-- ---- an answer with a mark

pub wrapped_word : (z : ℤ) → wrapped z < 2 ^ 32
wrapped_word (pos n) = omega arith
wrapped_word (negsuc n) = omega arith

pub result_word : (f a b c : ℕ) → result_of f a b c < 4294967296
unfolding result_of
result_word f a b c = wrapped_word (exact f (signed a) (signed b) (signed c))

packed_low : (w : ℕ) (m : Bool) → packed w m < 4294967296 → (packed w m ≡ w) × (m ≡ false)
packed_low w true h = absurd (omega arith)
packed_low w false h = (refl, refl)

packed_high : (w : ℕ) (m : Bool) → w < 4294967296 → 4294967296 ≤ packed w m → (packed w m - 4294967296 ≡ w) × (m ≡ true)
packed_high w true h k = (omega arith, refl)
packed_high w false h k = absurd (omega arith)

packed_rest : (w : ℕ) (m : Bool) → w < 4294967296 → packed w m % 4294967296 ≡ w
packed_rest w true h = omega arith
packed_rest w false h = omega arith

-- a function's answer: with no mark it is the word, with one 2^32 more, and its word is what 2^32 leaves
pub answer_low : (f a b c : ℕ) → marked_result f a b c < 4294967296 → (marked_result f a b c ≡ result_of f a b c) × (over f a b c ≡ false)
unfolding marked_result
answer_low f a b c h = packed_low (result_of f a b c) (over f a b c) h

pub answer_high : (f a b c : ℕ) → 4294967296 ≤ marked_result f a b c → (marked_result f a b c - 4294967296 ≡ result_of f a b c) × (over f a b c ≡ true)
unfolding marked_result
answer_high f a b c h = packed_high (result_of f a b c) (over f a b c) (result_word f a b c) h

pub answer_rest : (f a b c : ℕ) → marked_result f a b c % 4294967296 ≡ result_of f a b c
unfolding marked_result
answer_rest f a b c = packed_rest (result_of f a b c) (over f a b c) (result_word f a b c)
