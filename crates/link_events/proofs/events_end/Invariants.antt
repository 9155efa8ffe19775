-- After so many turns the place is that after so many events (`Passed`).
use Rattle.link_events.proofs.Laws.{Passed}
use Rattle.link_events.proofs.events_end.Given as goal

abbrev pub invariant-loop : goal.invariant-loop
invariant-loop l = Passed l.s l.i l.counter
