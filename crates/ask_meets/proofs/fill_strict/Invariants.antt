-- The sets of the events passed stand in the buffer.
use Rattle.lib_bits.specs.Bits.{Gathers}
use Rattle.check_reads.proofs.Filling.{Filled}
use Rattle.ask_meets.specs.Strict.{strict_on}
use Rattle.ask_meets.proofs.fill_strict.Given as goal

abbrev pub invariant-loop-e : goal.invariant-loop-e
invariant-loop-e l = Filled (λ e v. Gathers 64 v (strict_on l.d l.rows l.n l.cone e)) l.strict l.e
