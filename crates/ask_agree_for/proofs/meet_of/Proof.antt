-- Bit by bit, the operations are the definition's.
use borrow.Author.Rules.{rules}
use Rattle.ask_meets.specs.Meeting.{meeting}
use Rattle.ask_agree_for.proofs.meet_of.Statement.{statement}
use Rattle.ask_agree_for.proofs.meet_of.Tie as tie

pub meet_of_spec : {M : Type 1} → statement M
unfolding meeting
meet_of_spec =
    tie.close
    (tie.spec
    (λ c κs. search rules)
    (λ c κs. search rules)
    (λ c κs. search rules)
    (λ c κs. search rules)
    (λ c i. rw (c.common-3.ensures i, c.union_of.ensures i, c.common-2.ensures i, c.common.ensures i)))
