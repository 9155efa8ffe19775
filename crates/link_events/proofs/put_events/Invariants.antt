-- After so many turns the fields of so many events stand in the buffer (`Turn`).
use Rattle.link_events.proofs.Laws.{Turn}
use Rattle.link_events.proofs.put_events.Given as goal

abbrev pub invariant-loop : goal.invariant-loop
invariant-loop l = Turn l.s l.t l.fn.out l.out l.i l.j l.k l.counter
