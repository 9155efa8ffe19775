-- Bit by bit, the number shifted in is one more.
use borrow.Author.Rules.{rules}
use Rattle.lib_bits.proofs.BitLaws.{bit_insert}
use Rattle.lib_bits.proofs.insert.Statement.{statement}
use Rattle.lib_bits.proofs.insert.Tie as tie

pub insert_spec : {M : Type 1} → statement M
insert_spec = tie.close (tie.spec (λ c. search rules) (λ c i. bit_insert _ _ i c.requires))
