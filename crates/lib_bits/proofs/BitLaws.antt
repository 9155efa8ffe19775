-- The bits of a union, of what two sets share, of one number and of none: by the digits of the operations, and of a
-- power of two by induction on both exponents.
use Rattle.lib_base.proofs.Prelude.{ℕ, ◌<◌, suc, zero, ◌*◌, ◌%◌, ◌/◌, ◌^◌, ◌≡◌, refl, ◌∙◌, sym, ap, false, ◌||◌, ◌&&◌}
use Rattle.lib_base.proofs.Prelude.{eqb, eqb·suc-zero, pow-suc, arith}
use native.Mathlib.Nat.{mod-lt, zero-div, div-eq_of_lt, mul-div-mul_right, zero-lt-suc}
use lib.Bits.{bit_and, bit_or, or_shr, or_mod, and_shr, and_mod}
use lib.Pow.{pow_pos, shl_exact}
use lib.Dec.{eqb-zero-suc, eqb-suc-suc}
use Rattle.lib_bits.specs.Bits.{bit}

or_digit : (x y : ℕ) → x < 2 → y < 2 → eqb (bit_or x y) 1 ≡ eqb x 1 || eqb y 1
or_digit zero y h k = refl
or_digit (suc zero) zero h k = refl
or_digit (suc zero) (suc zero) h k = refl
or_digit (suc zero) (suc (suc y)) h k = absurd (omega arith)
or_digit (suc (suc x)) y h k = absurd (omega arith)

and_digit : (x y : ℕ) → x < 2 → y < 2 → eqb (bit_and x y) 1 ≡ eqb x 1 && eqb y 1
and_digit zero y h k = refl
and_digit (suc zero) zero h k = refl
and_digit (suc zero) (suc zero) h k = refl
and_digit (suc zero) (suc (suc y)) h k = absurd (omega arith)
and_digit (suc (suc x)) y h k = absurd (omega arith)

pub bit_of_or : (a b i : ℕ) → bit (bit_or a b) i ≡ bit a i || bit b i
unfolding bit
bit_of_or a b i =
    ap (λ (x : ℕ). eqb (x % 2) 1) (or_shr a b i)
    ∙ ap (λ (x : ℕ). eqb x 1) (or_mod (a / 2 ^ i) (b / 2 ^ i) 1)
    ∙ or_digit (a / 2 ^ i % 2) (b / 2 ^ i % 2) (mod-lt (a / 2 ^ i) (zero-lt-suc 1)) (mod-lt (b / 2 ^ i) (zero-lt-suc 1))

pub bit_of_and : (a b i : ℕ) → bit (bit_and a b) i ≡ bit a i && bit b i
unfolding bit
bit_of_and a b i =
    ap (λ (x : ℕ). eqb (x % 2) 1) (and_shr a b i)
    ∙ ap (λ (x : ℕ). eqb x 1) (and_mod (a / 2 ^ i) (b / 2 ^ i) 1)
    ∙ and_digit (a / 2 ^ i % 2) (b / 2 ^ i % 2) (mod-lt (a / 2 ^ i) (zero-lt-suc 1)) (mod-lt (b / 2 ^ i) (zero-lt-suc 1))

pub bit_none : (i : ℕ) → bit 0 i ≡ false
unfolding bit
bit_none i = rw (zero-div (2 ^ i))

pub bit_one : (i j : ℕ) → bit (2 ^ j) i ≡ eqb i j
unfolding bit
bit_one zero zero = refl
bit_one zero (suc j) = let h : 2 ^ suc j / 1 % 2 ≡ 0 = omega (arith, pow-suc 2 j) in rw (h, eqb-zero-suc j)
bit_one (suc i) zero =
    let s : 1 < 2 ^ suc i = omega (arith, pow-suc 2 i, pow_pos i) in
    rw (div-eq_of_lt s, eqb·suc-zero i)
bit_one (suc i) (suc j) =
    let q : 2 ^ suc j / 2 ^ suc i ≡ 2 ^ j / 2 ^ i = rw (pow-suc 2 j, pow-suc 2 i) (mul-div-mul_right (2 ^ j) (2 ^ i) (zero-lt-suc 1)) in
    ap (λ (x : ℕ). eqb (x % 2) 1) q ∙ bit_one i j ∙ sym (eqb-suc-suc i j)

-- a set with one number more, as the code shifts it
pub bit_insert : (a j i : ℕ) → j < 64 → bit (bit_or a ((1 * 2 ^ j) % 2 ^ 64)) i ≡ bit a i || eqb i j
bit_insert a j i h =
    let s : (1 * 2 ^ j) % 2 ^ 64 ≡ 1 * 2 ^ j = shl_exact 1 j 64 (omega arith) (omega arith) in
    let t : 1 * 2 ^ j ≡ 2 ^ j = omega arith in
    bit_of_or a ((1 * 2 ^ j) % 2 ^ 64) i ∙ rw (s ∙ t, bit_one i j)
