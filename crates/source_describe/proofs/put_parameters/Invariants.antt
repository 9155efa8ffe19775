-- What is left of the parameters to write is what there was (`Parametric`).
use Rattle.source_describe.proofs.Turns.{Parametric}
use Rattle.source_describe.proofs.put_parameters.Given as goal

abbrev pub invariant-loop-i : goal.invariant-loop-i
invariant-loop-i l = Parametric l.n l.fn.pen l.pen l.i
