use Rattle.lib_base.proofs.Pick.{code}
use Rattle.check_graph.specs.Sets.{ready_set}
use Rattle.check_graph.proofs.is_ready.Goals as goal

pub returns-then-contains : goal.returns-then-contains
unfolding ready_set
returns-then-contains c = rw (← c.contains.ensures) (search code depth 12)

pub returns : goal.returns
unfolding ready_set
returns c = rw (← c.contains.ensures) (search code depth 12)
