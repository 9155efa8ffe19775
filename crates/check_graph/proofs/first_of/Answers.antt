use Rattle.check_graph.proofs.First.{lowest_first, lowest_none}
use Rattle.check_graph.proofs.first_of.Goals as goal

pub returns-then-lowest-n : goal.returns-then-lowest-n
returns-then-lowest-n c = lowest_first _ _ c.ranges.set.fits c.requires c.if-lowest-n.true

pub returns : goal.returns
returns c = lowest_none _ _ c.ranges.set.fits c.if-lowest-n.false
