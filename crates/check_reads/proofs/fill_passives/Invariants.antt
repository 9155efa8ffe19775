-- The rows passed stand in the buffer.
use Rattle.lib_bits.specs.Bits.{Gathers}
use Rattle.check_reads.specs.Sets.{passive_on}
use Rattle.check_reads.proofs.Filling.{Filled}
use Rattle.check_reads.proofs.fill_passives.Given as goal

abbrev pub invariant-loop-i : goal.invariant-loop-i
invariant-loop-i l = Filled (λ i v. Gathers l.n v (passive_on l.d l.ev i)) l.rows l.i
