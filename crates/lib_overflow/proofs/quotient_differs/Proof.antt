-- By zero the mark is set; by −1 that of the least number; by any other number none differs.
use Rattle.lib_base.proofs.Prelude.{ne_eqb, arith}
use Rattle.lib_arith.proofs.Laws.{view}
use Rattle.lib_overflow.proofs.Laws.{quotient_within, quotient_by_minus_one}
use Rattle.lib_overflow.proofs.quotient_differs.Statement.{statement}
use Rattle.lib_overflow.proofs.quotient_differs.Tie as tie

pub quotient_differs_spec : {M : Type 1} → statement M
quotient_differs_spec =
    tie.close
    (tie.spec
    (λ c. rw c.if-b-eq0.true)
    (λ c. rw (ne_eqb c.before.before.args.b 0 (omega arith)) (quotient_by_minus_one (view c.before.before.args.a (omega arith)) (view c.before.before.args.b (omega arith)) (omega arith)))
    (λ c. rw (ne_eqb c.before.before.args.b 0 (omega arith)) (quotient_within (view c.before.before.args.a (omega arith)) (view c.before.before.args.b (omega arith)) (omega arith) (omega arith))))
