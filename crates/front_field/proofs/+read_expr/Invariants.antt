-- The nesting left falls with each call; the loop keeps that what is left gives the whole (`Turn`).
use Rattle.lib_base.proofs.Prelude.{◌-◌}
use Rattle.front_field.proofs.Laws.{Turn}
use Rattle.front_field.proofs.+read_expr.Given as goal

abbrev pub decreases-read_expr : goal.decreases-read_expr
decreases-read_expr l = l.left

abbrev pub invariant-loop : goal.invariant-loop
invariant-loop l = Turn l.left l.s l.fn.draft l.n l.f l.v l.draft l.at l.m (l.end - l.counter)
