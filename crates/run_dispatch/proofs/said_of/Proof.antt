-- The sum is the definition's.
use Rattle.run_dispatch.specs.Said.{said}
use Rattle.lib_base.proofs.Pick.{code}
use borrow.Author.Rules.{rules}
use Rattle.run_dispatch.proofs.said_of.Statement.{statement}
use Rattle.run_dispatch.proofs.said_of.Tie as tie

pub said_of_spec : {M : Type 1} → statement M
unfolding said
said_of_spec =
    tie.close
    (tie.spec
    (λ c κs. search rules)
    (λ c. search rules)
    (λ c κs. search rules)
    (λ c. search rules)
    (λ c. search rules)
    (λ c. search rules)
    (λ c. search rules)
    (λ c. search rules)
    (λ c. search rules)
    (λ c. search rules)
    (λ c. rw (c.player_of-player.ensures, c.before.event_of-event.ensures) (search code depth 12)))
