-- The behaviours that are left decide the whole.
use Rattle.lib_bits.specs.Bits.{bit}
use Rattle.ask_leak.specs.Leaking.{leak_from, names_any}
use Rattle.check_reads.proofs.FirstLaws.{Seeking}
use Rattle.ask_leak.proofs.leak_by.Given as goal

abbrev pub invariant-loop-i : goal.invariant-loop-i
invariant-loop-i l = Seeking (leak_from l.n (bit l.hidden) (names_any l.d l.ev)) 0 l.n l.i
