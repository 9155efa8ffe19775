-- The behaviours passed that are hidden are in the set.
use Rattle.lib_base.proofs.Prelude.{false, ◌&&◌, eqb}
use Rattle.ask_leak.specs.Leaking.{hidden_on}
use Rattle.check_reads.proofs.Gathering.{Gathered}
use Rattle.ask_leak.proofs.hidden_of.Given as goal

abbrev pub invariant-loop-j : goal.invariant-loop-j
invariant-loop-j l = Gathered 64 (λ h. false) (λ h j. hidden_on l.d l.player j && eqb h j) l.set l.j
