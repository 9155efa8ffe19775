-- Laws of the deeper of two nestings, by arithmetic.
use Rattle.lib_base.proofs.Prelude.{ℕ, ◌≤◌, ◌+◌, ◌≡◌, arith}
use Rattle.text_formula.specs.Nesting.{deeper}

pub deeper_left : (a b : ℕ) → a ≤ deeper a b
deeper_left a b = omega arith

pub deeper_right : (a b : ℕ) → b ≤ deeper a b
deeper_right a b = omega arith

pub deeper_most : (a b k : ℕ) → a ≤ k → b ≤ k → deeper a b ≤ k
deeper_most a b k p q = omega arith

pub deeper_sum : (a b : ℕ) → deeper a b ≤ a + b
deeper_sum a b = omega arith

pub deeper_none : (a : ℕ) → deeper 0 a ≡ a
deeper_none a = omega arith
