use Rattle.check_faults.proofs.Left.{left_first}
use Rattle.check_faults.proofs.first_left.Goals as goal

pub returns : goal.returns
returns c = left_first _ _ _ c.ranges.placed.fits c.requires c.first_of.ensures
