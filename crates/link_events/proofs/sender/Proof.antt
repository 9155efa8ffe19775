-- Each return is one branch of `sender_at`.
use Rattle.lib_base.proofs.Prelude.{◌+◌, rules, arith}
use Rattle.lib_base.proofs.Pick.{code}
use Rattle.link_events.specs.Merging.{sender_at}
use Rattle.link_events.proofs.sender.Statement.{statement}
use Rattle.link_events.proofs.sender.Tie as tie

pub sender_spec : {M : Type 1} → statement M
unfolding sender_at
sender_spec =
    tie.close
    (tie.spec
    (λ c. search rules)
    (λ c. search rules)
    (λ c. omega (arith, c.shared_slice_known-1.given (c.before.before.args.i + 4)))
    (λ c. search code depth 12)
    (λ c. search code depth 12))
