-- What the handlers passed are strict about is in the set.
use Rattle.lib_base.proofs.Prelude.{false, ◌&&◌}
use Rattle.lib_bits.specs.Bits.{bit}
use Rattle.check_reads.specs.Sets.{writes_on}
use Rattle.check_reads.proofs.Gathering.{Gathered}
use Rattle.ask_meets.specs.Strict.{strict_at_on}
use Rattle.ask_meets.proofs.strict_of.Given as goal

abbrev pub invariant-loop-i : goal.invariant-loop-i
invariant-loop-i l = Gathered 64 (λ j. false) (λ j i. (bit l.cone i && writes_on l.d l.e i) && strict_at_on l.d l.rows l.n l.e i j) l.set l.i
