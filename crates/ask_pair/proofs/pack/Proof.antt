-- The number is the definition's.
use borrow.Author.Rules.{rules}
use Rattle.ask_pair.specs.Pair.{packed_pair}
use Rattle.ask_pair.proofs.pack.Statement.{statement}
use Rattle.ask_pair.proofs.pack.Tie as tie

pub pack_spec : {M : Type 1} → statement M
unfolding packed_pair
pack_spec =
    tie.close
    (tie.spec (λ c κs. search rules) (λ c. search rules) (λ c. search rules) (λ c. search rules) (λ c. search rules)
    (λ c. rw c.flags_at.ensures.0))
