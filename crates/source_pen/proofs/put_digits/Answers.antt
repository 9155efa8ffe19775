use Rattle.lib_base.proofs.Prelude.{arith}
use Rattle.source_pen.proofs.Numbers.{digits_start, digits_turn, digits_end}
use Rattle.source_pen.proofs.put_digits.Goals as goal

pub loop-m-init : goal.loop-m-init
loop-m-init c = digits_start _ _ (omega arith) (omega arith)

pub loop-m-preserved : goal.loop-m-preserved
loop-m-preserved c = digits_turn c.loop-m.invariant (omega arith)

pub returns-clause-digits : goal.returns-clause-digits
returns-clause-digits c = digits_end c.loop-m.invariant (omega arith)
