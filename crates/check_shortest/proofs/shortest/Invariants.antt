-- The turns passed are searched.
use Rattle.check_shortest.specs.Search.{EarliestIfAny}
use Rattle.check_shortest.proofs.shortest.Given as goal

abbrev pub invariant-loop-t : goal.invariant-loop-t
invariant-loop-t l = EarliestIfAny l.d l.ev l.n l.t 0 l.best
