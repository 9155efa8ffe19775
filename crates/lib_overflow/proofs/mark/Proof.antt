-- Each branch is the definition's.
use borrow.Author.Rules.{rules}
use Rattle.lib_base.proofs.Pick.{code}
use Rattle.lib_overflow.proofs.mark.Statement.{statement}
use Rattle.lib_overflow.proofs.mark.Tie as tie

pub mark_spec : {M : Type 1} → statement M
mark_spec =
    tie.close (tie.spec (λ c. search rules) (λ c. search code depth 12) (λ c. search code depth 12))
