-- The list keeps its length.
use Rattle.std.proofs.Common.{◌≡◌, length}
use Rattle.source_index.proofs.put_in_order.Given as goal

abbrev pub invariant-loop-k : goal.invariant-loop-k
invariant-loop-k l = length l.places ≡ length l.initial.places
