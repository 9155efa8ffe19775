-- The branch is the definition's.
use Rattle.lib_base.proofs.Prelude.{rules, arith}
use Rattle.ask_pair.proofs.PairLaws.{weight_set, weight_none}
use Rattle.ask_pair.proofs.weight_of.Statement.{statement}
use Rattle.ask_pair.proofs.weight_of.Tie as tie

pub weight_of_spec : {M : Type 1} → statement M
weight_of_spec =
    tie.close
    (tie.spec
    (λ c κs. search rules)
    (λ c. (weight_set _ _ _ c.contains.ensures c.if-contains.true, omega arith))
    (λ c. (weight_none _ _ _ c.contains.ensures c.if-contains.false, omega arith)))
