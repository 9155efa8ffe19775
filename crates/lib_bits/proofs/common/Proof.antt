-- Bit by bit, the operation is "and".
use Rattle.lib_bits.proofs.BitLaws.{bit_of_and}
use Rattle.lib_bits.proofs.common.Statement.{statement}
use Rattle.lib_bits.proofs.common.Tie as tie

pub common_spec : {M : Type 1} → statement M
common_spec = tie.close (tie.spec (λ c i. bit_of_and _ _ i))
