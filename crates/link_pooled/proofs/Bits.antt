-- "A player may send a shared event only where both sheets allow it": the bits set in both bytes. By induction on the
-- player's number, bit by bit.
use Rattle.lib_base.proofs.Prelude.{ℕ, ◌≤◌, ◌<◌, suc, zero, ◌*◌, ◌%◌, ◌/◌, ◌^◌, ◌≡◌, refl, ◌∙◌, ◌&&◌, ◌⊎◌, inr, inl}
use Rattle.lib_base.proofs.Prelude.{eqb, arith}
use Prim.Native.Nat.{min}
use native.Mathlib.Nat.{div-div-eq-div-mul}
use lib.Bits.{bit_and, and_step, and_mask, and_comm}
use Rattle.lib_base.proofs.Tools.{split}
use Rattle.spec_language.specs.Rights.{may}

-- a bit is 0 or 1
bit : (r : ℕ) → r < 2 → (r ≡ 0) ⊎ (r ≡ 1)
bit zero h = inl refl
bit (suc zero) h = inr refl
bit (suc (suc n)) h = absurd (omega arith)

least : (x y : ℕ) → ((x ≡ 0) ⊎ (x ≡ 1)) → ((y ≡ 0) ⊎ (y ≡ 1)) → (min x y ≤ 1) × (eqb (min x y) 1 ≡ eqb x 1 && eqb y 1)
least x y (inl a) (inl b) = rw (a, b) (omega arith, refl)
least x y (inl a) (inr b) = rw (a, b) (omega arith, refl)
least x y (inr a) (inl b) = rw (a, b) (omega arith, refl)
least x y (inr a) (inr b) = rw (a, b) (omega arith, refl)

halved : (x n : ℕ) → x / 2 ^ suc n ≡ x / 2 / 2 ^ n
halved x n = let z : 2 ^ suc n ≡ 2 * 2 ^ n = omega arith in rw (div-div-eq-div-mul x 2 (2 ^ n), z)

both_bit : (n a b : ℕ) → eqb (bit_and a b / 2 ^ n % 2) 1 ≡ eqb (a / 2 ^ n % 2) 1 && eqb (b / 2 ^ n % 2) 1
both_bit zero a b =
    let p = least (a % 2) (b % 2) (bit (a % 2) (omega arith)) (bit (b % 2) (omega arith)) in
    let q = p.0 in
    let s = and_step a b in
    let z : bit_and a b / 1 % 2 ≡ min (a % 2) (b % 2) = omega arith in
    let x : a / 1 ≡ a = omega arith in
    let y : b / 1 ≡ b = omega arith in
    rw (z, x, y) p.1
both_bit (suc n) a b =
    let q = (least (a % 2) (b % 2) (bit (a % 2) (omega arith)) (bit (b % 2) (omega arith))).0 in
    let s = and_step a b in
    let z : bit_and a b / 2 ≡ bit_and (a / 2) (b / 2) = omega arith in
    rw (halved (bit_and a b) n, halved a n, halved b n, z) (both_bit n (a / 2) (b / 2))

-- a player may send by both bytes, or is the host
pub may_both : (a b player : ℕ) → may (bit_and a b) player ≡ may a player && may b player
may_both a b player = split (eqb player 0) (λ t. rw t) (λ t. rw t (both_bit player a b))

-- a missing byte, 255, leaves the other as it is
pub both_missing : (b : ℕ) → b < 256 → (bit_and 255 b ≡ b) × (bit_and b 255 ≡ b)
both_missing b h = let z : b % 2 ^ 8 ≡ b = omega arith in let m : bit_and b 255 ≡ b = and_mask b 8 ∙ z in (and_comm 255 b ∙ m, m)
