-- In each branch the test is known, and what it gives, 1 or 0, has no mark.
use Rattle.lib_arith.specs.Exact.{beyond}
use Rattle.lib_functions.proofs.truth.Statement.{statement}
use Rattle.lib_functions.proofs.truth.Tie as tie

pub truth_spec : {M : Type 1} → statement M
unfolding beyond
truth_spec = tie.close (tie.spec (λ c. rw c.if-t.true) (λ c. rw c.if-t.false))
