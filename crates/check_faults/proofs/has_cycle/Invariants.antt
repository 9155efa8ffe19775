-- On no event passed does a behaviour reach itself; of the behaviours passed none does on this event.
use Rattle.check_faults.proofs.Search.{Passed, Tried}
use Rattle.check_faults.proofs.has_cycle.Given as goal

abbrev pub invariant-search : goal.invariant-search
invariant-search l = Passed l.d l.bs l.e l.found

abbrev pub invariant-loop-b : goal.invariant-loop-b
invariant-loop-b l = Tried l.d l.bs l.e l.b l.found
