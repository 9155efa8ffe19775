-- The wrapping product is the exact one brought to 32 bits: the words of negative numbers add multiples of 2^32.
use Rattle.lib_base.proofs.Prelude.{arith, refl}
use Rattle.lib_arith.proofs.Laws.{view, product}
use Rattle.lib_arith.proofs.multiply.Goals as goal

pub returns : goal.returns
returns c = product (view c.args.a (omega arith)) (view c.args.b (omega arith)) _ refl
