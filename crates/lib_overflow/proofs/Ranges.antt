-- The exact sum, difference and product of two words fit 64 bits: by the signs of the two. `mag z` is n both for n and
-- for -(n + 1).
use Rattle.lib_base.proofs.Prelude.{ℕ, ◌≤◌, ◌<◌, ◌+◌, ◌-◌, suc, zero, ◌*◌, ◌^◌, ltb, mul-le-mul_left, ltb-false}
use Rattle.lib_base.proofs.Prelude.{ltb-true, arith}
use lib.IntN.{ℤ, pos, negsuc, neg_ℤ, sub_ℕ, ◌+ℤ◌, ◌-ℤ◌, ◌*ℤ◌}
use lib.Signed.{mag}
use mir.Syntax.{w64}
use mir.Val.{SFits}
use Rattle.lib_base.proofs.Tools.{by_test}
use Rattle.lib_arith.proofs.Laws.{View, low, high}

-- ---- magnitudes

mag_word : {a : ℕ} {z : ℤ} → View a z → mag z < 2 ^ 31
mag_word (low p) = p
mag_word (high x e n) = omega arith

mag_minus : (z : ℤ) (m : ℕ) → mag z < m → mag (neg_ℤ z) ≤ m
mag_minus (pos zero) m h = omega arith
mag_minus (pos (suc n)) m h = omega arith
mag_minus (negsuc n) m h = h

mag_sub : (a b m : ℕ) → a ≤ m → b ≤ m → mag (sub_ℕ a b) ≤ m
mag_sub a b m h k = by_test (λ z. mag z ≤ m) (ltb a b) (λ e. omega (arith, ltb-true a b e)) (λ e. omega (arith, ltb-false a b e))

mag_sum : (z w : ℤ) (m : ℕ) → mag z ≤ m → mag w ≤ m → mag (z +ℤ w) ≤ m + m + 1
mag_sum (pos a) (pos b) m h k = omega arith
mag_sum (pos a) (negsuc b) m h k = omega (arith, mag_sub a (suc b) (m + 1) (omega arith) (omega arith))
mag_sum (negsuc a) (pos b) m h k = omega (arith, mag_sub b (suc a) (m + 1) (omega arith) (omega arith))
mag_sum (negsuc a) (negsuc b) m h k = omega arith

mag_minus_pos : (n : ℕ) → mag (neg_ℤ (pos n)) ≤ n
mag_minus_pos zero = omega arith
mag_minus_pos (suc n) = omega arith

below_square : (a b : ℕ) → a ≤ 2 ^ 31 → b ≤ 2 ^ 31 → a * b < 2 ^ 63
below_square a b h k = omega (arith, mul-le-mul_left a k)

mag_product : (z w : ℤ) → mag z < 2 ^ 31 → mag w < 2 ^ 31 → mag (z *ℤ w) < 2 ^ 63
mag_product (pos a) (pos b) h k = below_square a b (omega arith) (omega arith)
mag_product (pos a) (negsuc b) h k =
    omega (arith, mag_minus_pos (a * suc b), below_square a (suc b) (omega arith) (omega arith))
mag_product (negsuc a) (pos b) h k =
    omega (arith, mag_minus_pos (suc a * b), below_square (suc a) b (omega arith) (omega arith))
mag_product (negsuc a) (negsuc b) h k = below_square (suc a) (suc b) (omega arith) (omega arith)

-- ---- results of words

pub sum_fits : {a b : ℕ} {z w : ℤ} → View a z → View b w → SFits w64 (z +ℤ w)
sum_fits {z = z} {w = w} u v =
    let h : mag z < 2 ^ 31 = mag_word u in
    let k : mag w < 2 ^ 31 = mag_word v in
    record { sfits = omega (arith, mag_sum z w (2 ^ 31) (omega arith) (omega arith)) }

pub difference_fits : {a b : ℕ} {z w : ℤ} → View a z → View b w → SFits w64 (z -ℤ w)
difference_fits {z = z} {w = w} u v =
    let h : mag z < 2 ^ 31 = mag_word u in
    record { sfits = omega (arith, mag_sum z (neg_ℤ w) (2 ^ 31) (omega arith) (mag_minus w (2 ^ 31) (mag_word v))) }

pub product_fits : {a b : ℕ} {z w : ℤ} → View a z → View b w → SFits w64 (z *ℤ w)
product_fits {z = z} {w = w} u v = record { sfits = mag_product z w (mag_word u) (mag_word v) }
