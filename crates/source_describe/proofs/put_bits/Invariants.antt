-- What is left of the bits is what there was (`Bits`).
use Rattle.source_describe.proofs.Turns.{Bits}
use Rattle.source_describe.proofs.put_bits.Given as goal

abbrev pub invariant-loop-i : goal.invariant-loop-i
invariant-loop-i l = Bits l.m l.fn.pen l.pen l.i l.rest
