-- The branches are those of `joins_in`.
use Rattle.lib_base.proofs.Pick.{code}
use Rattle.source_onward.specs.Onward.{joins_in}
use Rattle.source_onward.proofs.joins.Statement.{statement}
use Rattle.source_onward.proofs.joins.Tie as tie

pub joins_spec : {M : Type 1} → statement M
unfolding joins_in
joins_spec =
    tie.close (tie.spec (λ c. search code depth 16) (λ c. search code depth 16) (λ c. search code depth 16))
