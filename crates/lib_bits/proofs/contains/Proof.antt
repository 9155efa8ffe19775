-- The test is the bit.
use borrow.Author.Rules.{rules}
use Rattle.lib_bits.specs.Bits.{bit}
use Rattle.lib_bits.proofs.contains.Statement.{statement}
use Rattle.lib_bits.proofs.contains.Tie as tie

pub contains_spec : {M : Type 1} → statement M
unfolding bit
contains_spec = tie.close (tie.spec (λ c. search rules) (λ c. search rules))
