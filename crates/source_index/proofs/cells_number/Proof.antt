-- The two branches of `cells_meant`.
use Rattle.lib_base.proofs.Prelude.{◌-◌, le-ltb, lt-ltb, rules, arith}
use Rattle.source_index.proofs.cells_number.Statement.{statement}
use Rattle.source_index.proofs.cells_number.Tie as tie

pub cells_number_spec : {M : Type 1} → statement M
cells_number_spec =
    tie.close
    (tie.spec
    (λ c. search rules)
    (λ c. search rules)
    (λ c. (rw (lt-ltb (c.before.args.next - c.before.args.first) 2 (omega (arith, c.if-next-first.true))), omega (arith, c.before.requires)))
    (λ c. search rules)
    (λ c. search rules)
    (λ c. search rules)
    (λ c. (rw (le-ltb (c.before.args.next - c.before.args.first) 2 (omega (arith, c.if-next-first.false))), omega (arith, c.before.requires))))
