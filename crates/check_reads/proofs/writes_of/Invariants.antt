-- The behaviours passed that have a handler are in the set.
use Rattle.lib_base.proofs.Prelude.{false, ◌&&◌, eqb}
use Rattle.check_reads.specs.Sets.{writes_on}
use Rattle.check_reads.proofs.Gathering.{Gathered}
use Rattle.check_reads.proofs.writes_of.Given as goal

abbrev pub invariant-loop-i : goal.invariant-loop-i
invariant-loop-i l = Gathered 64 (λ j. false) (λ j i. writes_on l.d l.e i && eqb j i) l.set l.i
