-- `||` by whether the first word is 0: the laws of truth, on the callee's bit.
use Rattle.lib_arith.proofs.Laws.{or_first_false, or_first_true}
use borrow.Author.Rules.{rules}
use Rattle.lib_functions.proofs.either.Statement.{statement}
use Rattle.lib_functions.proofs.either.Tie as tie

pub either_spec : {M : Type 1} → statement M
either_spec =
    tie.close
    (tie.spec
    (λ c κs. search rules)
    (λ c. or_first_false c.before.before.args.a c.before.before.args.b _ c.before.if-a-eq0.true c.truth.ensures)
    (λ c. or_first_true c.before.args.a c.before.args.b c.if-a-eq0.false))
