-- Bit by bit, the operations are the definition's.
use borrow.Author.Rules.{rules}
use Rattle.ask_agree.specs.Conflict.{clash}
use Rattle.ask_agree.proofs.clash_of.Statement.{statement}
use Rattle.ask_agree.proofs.clash_of.Tie as tie

pub clash_of_spec : {M : Type 1} → statement M
unfolding clash
clash_of_spec =
    tie.close
    (tie.spec
    (λ c κs. search rules)
    (λ c κs. search rules)
    (λ c κs. search rules)
    (λ c κs. search rules)
    (λ c i. rw (c.union_of-2.ensures i, c.common.ensures i, c.union_of.ensures i, c.common-2.ensures i)))
