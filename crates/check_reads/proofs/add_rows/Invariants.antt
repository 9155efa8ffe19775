-- The rows passed of those named are in the set.
use Rattle.lib_base.proofs.Prelude.{◌&&◌, get_or}
use Rattle.lib_bits.specs.Bits.{bit}
use Rattle.check_reads.proofs.Gathering.{Gathered}
use Rattle.check_reads.proofs.add_rows.Given as goal

abbrev pub invariant-loop-i : goal.invariant-loop-i
invariant-loop-i l = Gathered 64 (λ j. bit l.names j) (λ j i. bit l.names i && bit (get_or l.rows i 0) j) l.set l.i
