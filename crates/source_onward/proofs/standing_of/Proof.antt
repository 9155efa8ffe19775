-- By the three kinds of tokens.
use Rattle.lib_base.proofs.Prelude.{refl, rules}
use Rattle.source_onward.proofs.standing_of.Statement.{statement}
use Rattle.source_onward.proofs.standing_of.Tie as tie

pub standing_of_spec : {M : Type 1} → statement M
standing_of_spec =
    tie.close
    (tie.spec
    (λ c. search rules)
    (λ c. search rules)
    (λ c. search rules)
    (λ c. rw c.in-Number.is (refl, refl, refl))
    (λ c. rw c.in-Name.is (refl, refl, refl))
    (λ c. rw c.in-Sign.is (refl, refl, refl)))
