-- The digits from place i on are those behind the digits of m, which is what is left (`Digits`).
use Rattle.source_pen.proofs.Numbers.{Digits}
use Rattle.source_pen.proofs.put_digits.Given as goal

abbrev pub invariant-loop-m : goal.invariant-loop-m
invariant-loop-m l = Digits l.fn.n l.text l.i l.m

abbrev pub decreases-loop-m : goal.decreases-loop-m
decreases-loop-m l = l.m
