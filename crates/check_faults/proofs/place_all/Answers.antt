use Rattle.check_faults.proofs.Left.{placed_on}
use Rattle.check_faults.proofs.place_all.Goals as goal

pub returns : goal.returns
returns c = placed_on _ _ c.requires.0 _ _ _ _ c.arrange-arranged.ensures
