-- The names of the behaviours passed stand in the buffer.
use Rattle.lib_bits.specs.Bits.{Gathers}
use Rattle.check_reads.proofs.Filling.{Filled}
use Rattle.ask_leak.specs.Leaking.{names_any}
use Rattle.ask_meets.proofs.fill_all_names.Given as goal

abbrev pub invariant-loop-i : goal.invariant-loop-i
invariant-loop-i l = Filled (λ i v. Gathers l.n v (names_any l.d l.ev i)) l.rows l.i
