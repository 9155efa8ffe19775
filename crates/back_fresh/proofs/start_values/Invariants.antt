-- The values are those of the behaviours passed.
use Rattle.std.proofs.Common.{◌≡◌}
use Rattle.back_fresh.specs.Evaluate.{starts_on}
use Rattle.back_fresh.proofs.start_values.Given as goal

abbrev pub invariant-loop-i : goal.invariant-loop-i
invariant-loop-i l = l.values ≡ starts_on l.draft l.i
