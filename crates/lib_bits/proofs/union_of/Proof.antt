-- Bit by bit, the operation is "or".
use Rattle.lib_bits.proofs.BitLaws.{bit_of_or}
use Rattle.lib_bits.proofs.union_of.Statement.{statement}
use Rattle.lib_bits.proofs.union_of.Tie as tie

pub union_of_spec : {M : Type 1} → statement M
union_of_spec = tie.close (tie.spec (λ c i. bit_of_or _ _ i))
