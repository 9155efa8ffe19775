-- Words as numbers of 64 bits: each fits, and is read back from its bits.
use Rattle.lib_base.proofs.Prelude.{ℕ, ◌≡◌, arith}
use Rattle.std.proofs.Common.{ℤ, to_z-of_z, w64, SFits, to_z, of_z}
use Rattle.lib_arith.proofs.Laws.{View, low, high}

pub number_fits : {a : ℕ} {z : ℤ} → View a z → SFits w64 z
number_fits (low p) = record { sfits = omega arith }
number_fits (high x e n) = record { sfits = omega arith }

pub number_back : {a : ℕ} {z : ℤ} → View a z → to_z w64 (of_z w64 z) ≡ z
number_back v = to_z-of_z {w = w64} (number_fits v)
