-- The bytes passed are the same.
use Rattle.source_names.proofs.Halves.{OrderSoFar}
use Rattle.source_names.proofs.order_at.Given as goal

abbrev pub invariant-loop-k : goal.invariant-loop-k
invariant-loop-k l = OrderSoFar l.text l.p l.n l.q l.k
