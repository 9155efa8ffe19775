-- Those listed lead to where it stands, and the steps left lead to i.
use Rattle.check_graph.specs.Sets.{bytes_of}
use Rattle.check_distance.proofs.WalkLaws.{Going}
use Rattle.check_distance.proofs.walk.Given as goal

abbrev pub invariant-loop-t : goal.invariant-loop-t
invariant-loop-t l = Going (bytes_of l.rows) l.n l.i l.r l.initial.list l.list l.at l.t
