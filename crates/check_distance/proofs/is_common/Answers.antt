use native.Mathlib.Omega.{arith}
use Rattle.check_distance.proofs.LayerLaws.{share_is}
use Rattle.check_distance.proofs.is_common.Goals as goal

-- no number is in both exactly if what they share is 0
pub returns : goal.returns
returns c = share_is _ _ (omega arith)
