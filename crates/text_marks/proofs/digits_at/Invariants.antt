-- The digits so far, as far as they count, and those left give the whole.
use Rattle.text_marks.proofs.Decimals.{DigitsSoFar}
use Rattle.text_marks.proofs.digits_at.Given as goal

abbrev pub invariant-loop-i : goal.invariant-loop-i
invariant-loop-i l = DigitsSoFar l.limit l.text l.at l.n l.i
