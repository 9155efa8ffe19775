-- The wrapping sum is the exact one brought to 32 bits: by the signs of the two words.
use Rattle.lib_base.proofs.Prelude.{arith, refl}
use Rattle.lib_arith.proofs.Laws.{view, sum}
use Rattle.lib_arith.proofs.add.Goals as goal

pub returns : goal.returns
returns c = sum (view _ (omega arith)) (view _ (omega arith)) _ refl
