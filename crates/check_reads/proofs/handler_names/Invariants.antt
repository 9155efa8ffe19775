-- The names in the handlers passed are in the set.
use Rattle.lib_base.proofs.Prelude.{false, ◌&&◌}
use Rattle.check_reads.specs.Sets.{names_on, writes_on}
use Rattle.check_reads.proofs.Gathering.{Gathered}
use Rattle.check_reads.proofs.handler_names.Given as goal

abbrev pub invariant-loop-i : goal.invariant-loop-i
invariant-loop-i l = Gathered 64 (λ j. false) (λ j i. writes_on l.d l.e i && names_on l.d l.e i j) l.set l.i
