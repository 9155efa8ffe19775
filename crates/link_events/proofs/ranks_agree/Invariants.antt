-- After so many turns the ranks of so many events agree (`Agreed`).
use Rattle.link_events.proofs.Laws.{Agreed}
use Rattle.link_events.proofs.ranks_agree.Given as goal

abbrev pub invariant-loop : goal.invariant-loop
invariant-loop l = Agreed l.s l.t l.i l.j l.counter
