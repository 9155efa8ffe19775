-- The search among those that are left gives the whole.
use Rattle.std.proofs.Common.{◌≡◌, ◌-◌}
use Rattle.check_graph.specs.Placing.{find_on}
use Rattle.check_graph.specs.Sets.{bytes_of, marks_of}
use Rattle.check_graph.proofs.find_next.Given as goal

abbrev pub invariant-loop-i : goal.invariant-loop-i
invariant-loop-i l = find_on (bytes_of l.rows) (marks_of l.set) l.n (l.n - l.i) l.i ≡ find_on (bytes_of l.rows) (marks_of l.set) l.n l.n 0
