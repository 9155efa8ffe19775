-- `floor_z` is the quotient rounded down: for a positive divisor its product with it is at most the dividend, and one
-- more is too much; for a negative one turned round. By the dividend's sign.
use Rattle.lib_base.proofs.Prelude.{ℕ, ◌≤◌, ◌<◌, ◌+◌, ◌-◌, suc, zero, ◌*◌, ◌/◌, ◌≡◌, refl, ◌∙◌, sym, arith}
use Rattle.std.proofs.Common.{ℤ, pos, negsuc, ◌+ℤ◌, ◌*ℤ◌, neg_ℤ, ◌≤ℤ◌, ◌<ℤ◌, zero-mul, div-mul-le_self, le→leb, ltb→lt, lt→ltb, leb→le}
use native.Mathlib.Nat.{div-zero, zero-div, div-eq_of_lt, lt-div-mul-add}
use lib.IntN.{neg_ℤ-neg_ℤ, +ℤ_one, *ℤ-negsuc}
use lib.Signed.{le_z_yes, lt_z_yes}
use Rattle.lib_arith.specs.Functions.{ceiling, floor_z}

-- ---- natural numbers: a quotient rounded up

enough : (n d : ℕ) → 0 < d → n ≤ ceiling n d * d
enough n d h = omega (arith, lt-div-mul-add {a = n + (d - 1)} {b = d} h)

not_too_much : (n d : ℕ) → 0 < d → ceiling n d * d < n + d
not_too_much n d h = omega (arith, div-mul-le_self (n + (d - 1)) d)

-- ---- negated numbers

neg_le : (m n : ℕ) → n ≤ m → neg_ℤ (pos m) ≤ℤ neg_ℤ (pos n)
neg_le zero zero h = le_z_yes tt
neg_le zero (suc n) h = absurd (omega arith)
neg_le (suc m) zero h = le_z_yes tt
neg_le (suc m) (suc n) h = le_z_yes (le→leb n m (omega arith))

neg_lt : (m n : ℕ) → n < m → neg_ℤ (pos m) <ℤ neg_ℤ (pos n)
neg_lt zero n h = absurd (omega arith)
neg_lt (suc m) zero h = lt_z_yes tt
neg_lt (suc m) (suc n) h = lt_z_yes (lt→ltb n m (omega arith))

turn_le : (a b : ℤ) → a ≤ℤ b → neg_ℤ b ≤ℤ neg_ℤ a
turn_le (pos a) (pos b) h = neg_le b a (leb→le a b h.le)
turn_le (pos a) (negsuc b) h = absurd h.le
turn_le (negsuc a) (pos zero) h = le_z_yes (le→leb 0 (suc a) (omega arith))
turn_le (negsuc a) (pos (suc b)) h = le_z_yes tt
turn_le (negsuc a) (negsuc b) h = le_z_yes (le→leb (suc b) (suc a) (omega (arith, leb→le b a h.le)))

turn_lt : (a b : ℤ) → a <ℤ b → neg_ℤ b <ℤ neg_ℤ a
turn_lt (pos a) (pos b) h = neg_lt b a (ltb→lt a b h.lt)
turn_lt (pos a) (negsuc b) h = absurd h.lt
turn_lt (negsuc a) (pos zero) h = lt_z_yes (lt→ltb 0 (suc a) (omega arith))
turn_lt (negsuc a) (pos (suc b)) h = lt_z_yes tt
turn_lt (negsuc a) (negsuc b) h = lt_z_yes (lt→ltb (suc b) (suc a) (omega (arith, ltb→lt b a h.lt)))

neg_times : (k d : ℕ) → neg_ℤ (pos k) *ℤ pos d ≡ neg_ℤ (pos (k * d))
neg_times zero d = rw (zero-mul d)
neg_times (suc k) d = refl

neg_more : (k : ℕ) → neg_ℤ (pos (suc k)) +ℤ pos 1 ≡ neg_ℤ (pos k)
neg_more zero = refl
neg_more (suc k) = +ℤ_one (negsuc (suc k))

-- ---- a positive divisor

-- the product with the divisor is at most the dividend
pub floor_at_most : (n : ℤ) (d : ℕ) → 0 < d → (floor_z n (pos d) *ℤ pos d) ≤ℤ n
floor_at_most (pos a) d h = le_z_yes (le→leb (a / d * d) a (div-mul-le_self a d))
floor_at_most (negsuc a) d h = rw (neg_times (ceiling (suc a) d) d) (neg_le (ceiling (suc a) d * d) (suc a) (enough (suc a) d h))

-- and one more is too much
pub floor_next_above : (n : ℤ) (d : ℕ) → 0 < d → n <ℤ ((floor_z n (pos d) +ℤ pos 1) *ℤ pos d)
floor_next_above (pos a) d h = lt_z_yes (lt→ltb a ((a / d + 1) * d) (omega (arith, lt-div-mul-add {a = a} {b = d} h)))
floor_next_above (negsuc a) d h = go (ceiling (suc a) d) (enough (suc a) d h) (not_too_much (suc a) d h)
  where
    go : (k : ℕ) → suc a ≤ k * d → k * d < suc a + d → negsuc a <ℤ ((neg_ℤ (pos k) +ℤ pos 1) *ℤ pos d)
    go zero l _ = absurd (omega arith)
    go (suc k) _ l = rw (neg_more k, neg_times k d) (neg_lt (suc a) (k * d) (omega arith))

-- ---- zero, and a negative divisor

pub floor_by_zero : (n : ℤ) → floor_z n (pos 0) ≡ pos 0
floor_by_zero (pos a) = rw div-zero
floor_by_zero (negsuc a) = rw div-zero

zero_up : (b : ℕ) → ceiling 0 (suc b) ≡ 0
zero_up b = div-eq_of_lt (omega arith)

-- both signs turned, the quotient is the same
pub floor_turned : (n d : ℤ) → floor_z (neg_ℤ n) (neg_ℤ d) ≡ floor_z n d
floor_turned n (pos zero) = floor_by_zero (neg_ℤ n) ∙ sym (floor_by_zero n)
floor_turned (pos zero) (pos (suc b)) = rw (zero_up b, zero-div (suc b))
floor_turned (pos zero) (negsuc b) = rw (zero_up b, zero-div (suc b))
floor_turned (pos (suc a)) (pos (suc b)) = refl
floor_turned (pos (suc a)) (negsuc b) = refl
floor_turned (negsuc a) (pos (suc b)) = refl
floor_turned (negsuc a) (negsuc b) = refl

-- the product with a negative divisor is at least the dividend, and one more is too little
pub floor_at_least : (n : ℤ) (b : ℕ) → n ≤ℤ (floor_z n (negsuc b) *ℤ negsuc b)
floor_at_least n b =
    let q : ℤ = floor_z (neg_ℤ n) (pos (suc b)) in
    let h : neg_ℤ (neg_ℤ n) ≤ℤ neg_ℤ (q *ℤ pos (suc b)) = turn_le (q *ℤ pos (suc b)) (neg_ℤ n) (floor_at_most (neg_ℤ n) (suc b) (omega arith)) in
    rw (← floor_turned n (negsuc b), *ℤ-negsuc q b) (rw (neg_ℤ-neg_ℤ n) at h)

pub floor_next_below : (n : ℤ) (b : ℕ) → ((floor_z n (negsuc b) +ℤ pos 1) *ℤ negsuc b) <ℤ n
floor_next_below n b =
    let q : ℤ = floor_z (neg_ℤ n) (pos (suc b)) +ℤ pos 1 in
    let h : neg_ℤ (q *ℤ pos (suc b)) <ℤ neg_ℤ (neg_ℤ n) = turn_lt (neg_ℤ n) (q *ℤ pos (suc b)) (floor_next_above (neg_ℤ n) (suc b) (omega arith)) in
    rw (← floor_turned n (negsuc b), *ℤ-negsuc q b) (rw (neg_ℤ-neg_ℤ n) at h)
