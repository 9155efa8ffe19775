-- Placing those that are left, from where it stands, gives the whole.
use Rattle.std.proofs.Common.{◌≡◌, ◌-◌}
use Rattle.check_graph.specs.Placing.{order_on}
use Rattle.check_graph.specs.Sets.{bytes_of, marks_of}
use Rattle.check_graph.proofs.arrange.Given as goal

abbrev pub invariant-loop-count : goal.invariant-loop-count
invariant-loop-count l =
    order_on (bytes_of l.rows) l.n (l.n - l.count) (marks_of l.set) l.count l.out ≡ order_on (bytes_of l.rows) l.n l.n (marks_of l.met) 0 l.initial.out
