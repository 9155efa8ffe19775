-- The number is put in or taken away.
use borrow.Author.Rules.{rules}
use Rattle.ask_meets.proofs.MarkLaws.{put_in, put_out}
use Rattle.ask_meets.proofs.with_member.Statement.{statement}
use Rattle.ask_meets.proofs.with_member.Tie as tie

pub with_member_spec : {M : Type 1} → statement M
with_member_spec =
    tie.close
    (tie.spec
    (λ c κs. search rules)
    (λ c j. put_in _ _ _ j _ c.if-there.true (c.insert.ensures j))
    (λ c κs. search rules)
    (λ c j. put_out _ _ _ j _ c.if-there.false (c.remove.ensures j)))
