-- `&&` by whether the first word is 0: the laws of truth, on the callee's bit.
use Rattle.lib_arith.proofs.Laws.{and_first_false, and_first_true}
use borrow.Author.Rules.{rules}
use Rattle.lib_functions.proofs.both.Statement.{statement}
use Rattle.lib_functions.proofs.both.Tie as tie

pub both_spec : {M : Type 1} → statement M
both_spec =
    tie.close
    (tie.spec
    (λ c κs. search rules)
    (λ c. and_first_false c.before.args.a c.before.args.b c.if-a-eq0.true)
    (λ c. and_first_true c.before.before.args.a c.before.before.args.b _ c.before.if-a-eq0.false c.truth.ensures))
