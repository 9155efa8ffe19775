-- The empty matrix: its length, and a zero everywhere.
use Rattle.lib_base.proofs.Prelude.{ℕ, suc, zero, ◌≡◌, refl, length, get_or, replicate, length-replicate}
use Rattle.check_faults.specs.Checks.{zero_bytes}

zero_in : (n i : ℕ) → get_or {A = ℕ} (replicate n 0) i 0 ≡ 0
zero_in zero i = refl
zero_in (suc n) zero = refl
zero_in (suc n) (suc i) = zero_in n i

pub blank_at : (n i : ℕ) → get_or (zero_bytes n) i 0 ≡ 0
unfolding zero_bytes
blank_at n i = zero_in n i

pub length_blank : (n : ℕ) → length (zero_bytes n) ≡ n
unfolding zero_bytes
length_blank n = length-replicate n 0
