-- The wrapping difference is the exact one brought to 32 bits: by the signs of the two words.
use Rattle.lib_base.proofs.Prelude.{arith}
use Rattle.lib_arith.proofs.Laws.{view, less}
use Rattle.lib_arith.proofs.subtract.Goals as goal

pub returns : goal.returns
returns c = less (view c.args.a (omega arith)) (view c.args.b (omega arith)) _ (omega arith) (omega arith)
