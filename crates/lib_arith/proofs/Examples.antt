-- The facts of 01 "Arithmetic", M-102 and M-104, each by computing: functions by their numbers, on words. An argument
-- that is not needed is given as 0.
use Rattle.lib_base.proofs.Prelude.{ℕ, ◌-◌, ◌^◌, ◌≡◌, refl, true, false}
use Rattle.std.proofs.Common.{pos, negsuc}
use Rattle.lib_arith.specs.Exact.{signed, beyond}
use Rattle.lib_arith.specs.Functions.{exact, result_of, over}

-- the word of -n
abbrev pub minus : ℕ → ℕ
minus n = 2 ^ 32 - n

pub minus_seven : signed (minus 7) ≡ negsuc 6
minus_seven = refl

-- "Sums, differences and products wrap at 32 bits, as two's complement does."
pub exact_sum : exact 4 (pos 2147483647) (pos 1) (pos 0) ≡ pos 2147483648
unfolding exact
exact_sum = refl

pub sum_wraps : result_of 4 2147483647 1 0 ≡ minus 2147483648
unfolding result_of exact
sum_wraps = refl

pub sum_of_signs : result_of 4 (minus 5) 3 0 ≡ minus 2
unfolding result_of exact
sum_of_signs = refl

pub difference_wraps : result_of 5 (minus 2147483648) 1 0 ≡ 2147483647
unfolding result_of exact
difference_wraps = refl

-- 46341 * 46341 is 2147488281
pub product_wraps : result_of 6 46341 46341 0 ≡ minus 2147479015
unfolding result_of exact
product_wraps = refl

pub product_of_signs : result_of 6 (minus 3) 4 0 ≡ minus 12
unfolding result_of exact
product_of_signs = refl

-- "A quotient with a fraction goes to the next whole number below, so −7 / 2 is −4 and 7 / −2 is −4; 7 / 2 stays 3. By
-- zero still gives 0, and −2,147,483,648 / −1 still wraps to itself."
pub quotient_below : result_of 7 (minus 7) 2 0 ≡ minus 4
unfolding result_of exact
quotient_below = refl

pub quotient_by_negative : result_of 7 7 (minus 2) 0 ≡ minus 4
unfolding result_of exact
quotient_by_negative = refl

pub quotient_of_positives : result_of 7 7 2 0 ≡ 3
unfolding result_of exact
quotient_of_positives = refl

pub quotient_of_negatives : result_of 7 (minus 7) (minus 2) 0 ≡ 3
unfolding result_of exact
quotient_of_negatives = refl

pub quotient_without_fraction : result_of 7 (minus 6) 2 0 ≡ minus 3
unfolding result_of exact
quotient_without_fraction = refl

pub quotient_of_zero : result_of 7 0 (minus 2) 0 ≡ 0
unfolding result_of exact
quotient_of_zero = refl

pub quotient_by_zero : result_of 7 5 0 0 ≡ 0
unfolding result_of exact
quotient_by_zero = refl

pub negative_by_zero : result_of 7 (minus 5) 0 0 ≡ 0
unfolding result_of exact
negative_by_zero = refl

pub exact_least_by_minus_one : exact 7 (negsuc 2147483647) (negsuc 0) (pos 0) ≡ pos 2147483648
unfolding exact
exact_least_by_minus_one = refl

pub least_by_minus_one : result_of 7 (minus 2147483648) (minus 1) 0 ≡ minus 2147483648
unfolding result_of exact
least_by_minus_one = refl

-- "`||` .. `&&`": all four pairs of truths, and the truth of any number but 0
pub or_table : (result_of 1 0 0 0 ≡ 0) × (result_of 1 1 0 0 ≡ 1) × (result_of 1 0 1 0 ≡ 1) × (result_of 1 1 1 0 ≡ 1)
unfolding result_of exact
or_table = (refl, refl, refl, refl)

pub and_table : (result_of 2 0 0 0 ≡ 0) × (result_of 2 1 0 0 ≡ 0) × (result_of 2 0 1 0 ≡ 0) × (result_of 2 1 1 0 ≡ 1)
unfolding result_of exact
and_table = (refl, refl, refl, refl)

-- the six comparisons on equal and on neighbouring words, both ways round
pub above : (result_of 8 7 7 0 ≡ 0) × (result_of 8 8 7 0 ≡ 1) × (result_of 8 7 8 0 ≡ 0)
unfolding result_of exact
above = (refl, refl, refl)

pub at_least : (result_of 9 7 7 0 ≡ 1) × (result_of 9 8 7 0 ≡ 1) × (result_of 9 7 8 0 ≡ 0)
unfolding result_of exact
at_least = (refl, refl, refl)

pub below : (result_of 10 7 7 0 ≡ 0) × (result_of 10 8 7 0 ≡ 0) × (result_of 10 7 8 0 ≡ 1)
unfolding result_of exact
below = (refl, refl, refl)

pub at_most : (result_of 11 7 7 0 ≡ 1) × (result_of 11 8 7 0 ≡ 0) × (result_of 11 7 8 0 ≡ 1)
unfolding result_of exact
at_most = (refl, refl, refl)

pub equality : (result_of 12 7 7 0 ≡ 1) × (result_of 12 8 7 0 ≡ 0) × (result_of 12 7 8 0 ≡ 0)
unfolding result_of exact
equality = (refl, refl, refl)

pub inequality : (result_of 13 7 7 0 ≡ 0) × (result_of 13 8 7 0 ≡ 1) × (result_of 13 7 8 0 ≡ 1)
unfolding result_of exact
inequality = (refl, refl, refl)

-- the order is that of signed numbers: the greatest word below 2^31 is above all others
pub greatest_above_least : (result_of 8 2147483647 2147483648 0 ≡ 1) × (result_of 10 2147483647 2147483648 0 ≡ 0)
unfolding result_of exact
greatest_above_least = (refl, refl)

-- "Zero is false, all else true; tests give 1 or 0."
pub and_is_of_truth : result_of 2 2 1 0 ≡ 1
unfolding result_of exact
and_is_of_truth = refl

pub and_of_zero : result_of 2 2 0 0 ≡ 0
unfolding result_of exact
and_of_zero = refl

pub or_is_of_truth : result_of 1 0 (minus 4) 0 ≡ 1
unfolding result_of exact
or_is_of_truth = refl

pub not_of_negative : result_of 3 (minus 1) 0 0 ≡ 0
unfolding result_of exact
not_of_negative = refl

pub not_of_zero : result_of 3 0 0 0 ≡ 1
unfolding result_of exact
not_of_zero = refl

pub negative_not_above : result_of 8 (minus 1) 1 0 ≡ 0
unfolding result_of exact
negative_not_above = refl

pub at_least_itself : result_of 9 (minus 1) (minus 1) 0 ≡ 1
unfolding result_of exact
at_least_itself = refl

pub negative_below : result_of 10 (minus 1) 1 0 ≡ 1
unfolding result_of exact
negative_below = refl

pub zero_not_at_most_negative : result_of 11 0 (minus 1) 0 ≡ 0
unfolding result_of exact
zero_not_at_most_negative = refl

pub equal : result_of 12 (minus 1) (minus 1) 0 ≡ 1
unfolding result_of exact
equal = refl

pub unequal : result_of 13 (minus 1) 1 0 ≡ 1
unfolding result_of exact
unequal = refl

-- "`if` gives its second value when the first is true, else its third."
pub second_if_true : result_of 14 5 10 20 ≡ 10
unfolding result_of exact
second_if_true = refl

pub third_if_false : result_of 14 0 10 20 ≡ 20
unfolding result_of exact
third_if_false = refl

pub second_if_negative : result_of 14 (minus 3) 7 9 ≡ 7
unfolding result_of exact
second_if_negative = refl

-- M-104: "whether its exact whole-number result differed from the 32-bit one, or the divisor was zero"
pub sum_over : over 4 2147483647 1 0 ≡ true
unfolding over exact beyond
sum_over = refl

pub sum_at_the_top : over 4 2147483646 1 0 ≡ false
unfolding over exact beyond
sum_at_the_top = refl

pub sum_over_below : over 4 (minus 2147483648) (minus 1) 0 ≡ true
unfolding over exact beyond
sum_over_below = refl

pub sum_with_a_carry : over 4 (minus 1) (minus 1) 0 ≡ false
unfolding over exact beyond
sum_with_a_carry = refl

pub difference_over : over 5 0 (minus 2147483648) 0 ≡ true
unfolding over exact beyond
difference_over = refl

pub difference_at_the_top : over 5 (minus 1) (minus 2147483648) 0 ≡ false
unfolding over exact beyond
difference_at_the_top = refl

pub product_over : over 6 46341 46341 0 ≡ true
unfolding over exact beyond
product_over = refl

pub product_at_the_bottom : over 6 65536 (minus 32768) 0 ≡ false
unfolding over exact beyond
product_at_the_bottom = refl

pub by_zero_over : over 7 5 0 0 ≡ true
unfolding over exact beyond
by_zero_over = refl

pub zero_by_zero_over : over 7 0 0 0 ≡ true
unfolding over exact beyond
zero_by_zero_over = refl

pub least_by_minus_one_over : over 7 (minus 2147483648) (minus 1) 0 ≡ true
unfolding over exact beyond
least_by_minus_one_over = refl

pub fraction_dropped : over 7 (minus 7) 2 0 ≡ false
unfolding over exact beyond
fraction_dropped = refl

pub test_of_zero : over 12 5 0 0 ≡ false
unfolding over exact beyond
test_of_zero = refl

pub if_not_over : over 14 1 (minus 2147483648) 0 ≡ false
unfolding over exact beyond
if_not_over = refl
