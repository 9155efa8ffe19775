-- Bit by bit, the operations are the definition's.
use borrow.Author.Rules.{rules}
use Rattle.ask_pair.proofs.cross.Statement.{statement}
use Rattle.ask_pair.proofs.cross.Tie as tie

pub cross_spec : {M : Type 1} → statement M
cross_spec =
    tie.close
    (tie.spec
    (λ c κs. search rules)
    (λ c κs. search rules)
    (λ c κs. search rules)
    (λ c i. rw (c.union_of.ensures i, c.common-2.ensures i, c.common.ensures i)))
