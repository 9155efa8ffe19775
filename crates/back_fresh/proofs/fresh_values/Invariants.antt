-- The turns that are left, on the values as they stand, give the whole.
use Rattle.std.proofs.Common.{◌≡◌, drop}
use Rattle.back_fresh.specs.Evaluate.{turns_on, fresh_on}
use Rattle.back_fresh.proofs.fresh_values.Given as goal

abbrev pub invariant-loop-i : goal.invariant-loop-i
invariant-loop-i l = turns_on l.draft l.event (drop l.i-index l.order) l.values ≡ fresh_on l.draft l.n l.event l.order
