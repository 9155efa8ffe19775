-- Each return is one branch of `rank_at`.
use borrow.Author.Rules.{rules}
use Rattle.lib_base.proofs.Pick.{code}
use Rattle.link_events.specs.Merging.{rank_at}
use Rattle.link_events.proofs.rank.Statement.{statement}
use Rattle.link_events.proofs.rank.Tie as tie

pub rank_spec : {M : Type 1} → statement M
unfolding rank_at
rank_spec = tie.close (tie.spec (λ c. search code depth 12) (λ c. search rules) (λ c. search rules) (λ c. search code depth 12))
