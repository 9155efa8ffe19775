use Rattle.check_faults.proofs.Left.{round_told}
use Rattle.check_faults.proofs.reach_all.Goals as goal

pub returns : goal.returns
returns c = round_told _ _ _ c.told-d c.requires.1 c.requires.2 c.fill_rows.ensures c.place_all-placed.ensures c.close_left.ensures
