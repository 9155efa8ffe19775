-- The behaviours passed are in the set.
use Rattle.lib_base.proofs.Prelude.{false, ◌&&◌, eqb}
use Rattle.check_reads.proofs.Gathering.{Gathered}
use Rattle.ask_pair.specs.Pair.{everyone}
use Rattle.ask_pair.proofs.all_of.Given as goal

abbrev pub invariant-loop-i : goal.invariant-loop-i
invariant-loop-i l = Gathered 64 (λ j. false) (λ j i. everyone i && eqb j i) l.set l.i
