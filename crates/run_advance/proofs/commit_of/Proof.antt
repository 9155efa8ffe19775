-- Each return is one branch of the definition; what is said fits 49 bits.
use Rattle.lib_base.proofs.Prelude.{rules, arith}
use Rattle.lib_base.proofs.Pick.{code}
use Rattle.run_dispatch.specs.Said.{said}
use Rattle.run_advance.specs.Advance.{commit_said}
use Rattle.run_advance.proofs.commit_of.Statement.{statement}
use Rattle.run_advance.proofs.commit_of.Tie as tie

pub commit_of_spec : {M : Type 1} → statement M
unfolding commit_said said
commit_of_spec =
    tie.close
    (tie.spec
    (λ c κs. search rules)
    (λ c. rw c.before.said_of-said.ensures (search code depth 12))
    (λ c. omega (arith, c.before.said_of-said.ensures))
    (λ c. rw c.before.said_of-said.ensures (search code depth 12)))
