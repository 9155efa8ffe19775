-- Bit by bit, the operation takes the number away where it is there.
use borrow.Author.Rules.{rules}
use Rattle.ask_meets.proofs.MarkLaws.{removed, not_there}
use Rattle.ask_meets.proofs.remove.Statement.{statement}
use Rattle.ask_meets.proofs.remove.Tie as tie

pub remove_spec : {M : Type 1} → statement M
remove_spec =
    tie.close
    (tie.spec
    (λ c κs. search rules)
    (λ c. search rules)
    (λ c i. removed _ _ i c.requires c.contains.ensures c.if-contains.true)
    (λ c i. not_there _ _ i c.contains.ensures c.if-contains.false))
