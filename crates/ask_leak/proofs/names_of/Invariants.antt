-- The names in the entries passed are in the set.
use Rattle.lib_base.proofs.Prelude.{false}
use Rattle.check_reads.specs.Sets.{names_on}
use Rattle.check_reads.proofs.Gathering.{Gathered}
use Rattle.ask_leak.proofs.names_of.Given as goal

abbrev pub invariant-loop-e : goal.invariant-loop-e
invariant-loop-e l = Gathered 64 (λ j. false) (λ j e. names_on l.d e l.i j) l.set l.e
