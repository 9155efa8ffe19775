-- Each return is one branch of `merged`.
use Rattle.lib_base.proofs.Pick.{code}
use Rattle.link_events.specs.Merging.{merged}
use Rattle.link_events.proofs.merge.Statement.{statement}
use Rattle.link_events.proofs.merge.Tie as tie

pub merge_spec : {M : Type 1} → statement M
unfolding merged
merge_spec = tie.close (tie.spec (λ c. search code depth 12) (λ c. search code depth 12) (λ c. search code depth 12))
