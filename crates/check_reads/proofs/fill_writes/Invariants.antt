-- The sets of the events passed stand in the buffer.
use Rattle.lib_bits.specs.Bits.{Gathers}
use Rattle.check_reads.specs.Sets.{writes_on}
use Rattle.check_reads.proofs.Filling.{Filled}
use Rattle.check_reads.proofs.fill_writes.Given as goal

abbrev pub invariant-loop-e : goal.invariant-loop-e
invariant-loop-e l = Filled (λ e v. Gathers l.n v (writes_on l.d e)) l.writes l.e
