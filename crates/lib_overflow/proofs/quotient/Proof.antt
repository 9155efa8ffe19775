-- The word and the mark are the callees', by their contracts.
use borrow.Author.Rules.{rules}
use Rattle.lib_overflow.proofs.quotient.Statement.{statement}
use Rattle.lib_overflow.proofs.quotient.Tie as tie

pub quotient_spec : {M : Type 1} → statement M
quotient_spec =
    tie.close
    (tie.spec
    (λ c κs. search rules)
    (λ c κs. search rules)
    (λ c κs. search rules)
    (λ c. cc (c.mark.ensures, c.before.quotient_differs.ensures, c.before.before.divide.ensures)))
