-- Every function has an argument.
use Rattle.lib_base.proofs.Prelude.{ℕ, ◌<◌, eqb, arith}
use Rattle.lib_base.proofs.Tools.{by_test}
use Rattle.lib_signature.specs.Signature.{arity}
use Rattle.lib_signature.specs.Numbers.{not_fn, if_fn}

pub arity_some : (f : ℕ) → 0 < arity f
unfolding arity
arity_some f =
    by_test (λ n. 0 < n) (eqb f not_fn) (λ t. omega arith) (λ t. by_test (λ n. 0 < n) (eqb f if_fn) (λ u. omega arith) (λ u. omega arith))
