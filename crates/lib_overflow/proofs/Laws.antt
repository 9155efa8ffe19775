-- Which whole numbers differ from their 32-bit one, and which quotients of two words do, in natural numbers: by the
-- cases of the two signs (`View`).
use Rattle.lib_base.proofs.Prelude.{ℕ, ◌≤◌, ◌<◌, ◌+◌, ◌-◌, suc, zero, ◌/◌, ◌≡◌, refl, ◌∙◌, sym, true, false, Bool, ◌||◌}
use Rattle.lib_base.proofs.Prelude.{or-false, ◌≢◌, eqb, ltb, mul-le-mul_left, ne_eqb, eqb-true, le-ltb, lt-ltb}
use Rattle.lib_base.proofs.Prelude.{ltb-false, eqb-false, ltb-true, arith}
use native.Mathlib.Nat.{div-le_self, div-mul-le_self, mul-le-mul_right}
use lib.IntN.{ℤ, pos, negsuc, neg_ℤ}
use lib.Signed.{lt_z}
use Rattle.lib_base.proofs.Tools.{split}
use Rattle.lib_arith.specs.Exact.{beyond}
use Rattle.lib_arith.specs.Functions.{ceiling, floor_z}
use Rattle.lib_arith.proofs.ArithLaws.{beyond_pos, beyond_neg}
use Rattle.lib_arith.proofs.Laws.{View, low, high}

-- two tests that say the same
same_test : (a b c d : ℕ) → (a < b → c < d) → (b ≤ a → d ≤ c) → ltb a b ≡ ltb c d
same_test a b c d h k = go (ltb a b) refl
  where
    go : (t : Bool) → ltb a b ≡ t → t ≡ ltb c d
    go true e = sym (lt-ltb c d (h (ltb-true a b e)))
    go false e = sym (le-ltb c d (k (ltb-false a b e)))

beyond_minus : (n : ℕ) → beyond (neg_ℤ (pos n)) ≡ ltb 2147483648 n
beyond_minus zero = beyond_pos 0
beyond_minus (suc n) = beyond_neg n ∙ same_test 2147483647 n 2147483648 (suc n) (λ h. omega arith) (λ h. omega arith)

-- the numbers beyond 32 bits are those above the largest and those below the least
pub outside : (z : ℤ) → lt_z (pos 2147483647) z || lt_z z (negsuc 2147483647) ≡ beyond z
outside (pos n) = or-false (ltb 2147483647 n) ∙ sym (beyond_pos n)
outside (negsuc n) = sym (beyond_neg n)

-- ---- quotients

ceiling_least : (n d : ℕ) → 0 < d → ceiling n d ≤ n
ceiling_least n d h =
    split (ltb n (ceiling n d))
    (λ e. absurd (omega (
      arith,
      div-mul-le_self (n + (d - 1)) d,
      mul-le-mul_right d (ltb-true n (ceiling n d) e),
      mul-le-mul_left n h,
    )))
    (λ e. ltb-false n (ceiling n d) e)

-- by another number than 0 and -1 none does
pub quotient_within : {a b : ℕ} {z w : ℤ} → View a z → View b w → b ≢ 0 → b ≢ 4294967295 → false ≡ beyond (floor_z z w)
quotient_within {a} {b} (low p) (low q) h k = sym (beyond_pos (a / b) ∙ le-ltb 2147483647 (a / b) (omega (arith, div-le_self a b)))
quotient_within {a} (low p) (high y g n) h k =
    sym (beyond_minus (ceiling a (suc y)) ∙ le-ltb 2147483648 (ceiling a (suc y)) (omega (arith, ceiling_least a (suc y) (omega arith))))
quotient_within {b = b} (high x f n) (low q) h k =
    sym (beyond_minus (ceiling (suc x) b) ∙ le-ltb 2147483648 (ceiling (suc x) b) (omega (arith, ceiling_least (suc x) b (omega arith))))
quotient_within (high x f n) (high y g o) h k =
    sym (beyond_pos (suc x / suc y) ∙ le-ltb 2147483647 (suc x / suc y)
    (omega (arith, div-mul-le_self (suc x) (suc y), mul-le-mul_left (suc x / suc y) (two y (omega arith)))))
  where
    two : (y : ℕ) → 0 < y → 2 ≤ suc y
    two y h = omega arith

-- by -1 that of -2^31 does
pub quotient_by_minus_one : {a b : ℕ} {z w : ℤ} → View a z → View b w → b ≡ 4294967295 → eqb a 2147483648 ≡ beyond (floor_z z w)
quotient_by_minus_one (low p) (low q) h = absurd (omega arith)
quotient_by_minus_one {a} (low p) (high y g n) h =
    ne_eqb a 2147483648 (omega arith)
    ∙ sym (beyond_minus (ceiling a (suc y)) ∙ le-ltb 2147483648 (ceiling a (suc y)) (omega (arith, ceiling_least a (suc y) (omega arith))))
quotient_by_minus_one (high x f n) (low q) h = absurd (omega arith)
quotient_by_minus_one {a} (high x f n) (high y g o) h =
    let z : y ≡ 0 = omega arith in
    rw z
    (split (eqb a 2147483648)
    (λ e. e ∙ sym (beyond_pos (suc x / 1) ∙ lt-ltb 2147483647 (suc x / 1) (omega (arith, eqb-true a 2147483648 e))))
    (λ e. e ∙ sym (beyond_pos (suc x / 1) ∙ le-ltb 2147483647 (suc x / 1) (omega (arith, eqb-false a 2147483648 e)))))
