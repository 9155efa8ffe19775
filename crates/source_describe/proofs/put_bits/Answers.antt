use Rattle.lib_base.proofs.Prelude.{arith}
use Rattle.source_terms.proofs.Writing.{under_start}
use Rattle.source_describe.proofs.Turns.{bits_on, bits_end}
use Rattle.source_describe.proofs.put_bits.Goals as goal

pub loop-i-init : goal.loop-i-init
loop-i-init c = record { underway = under_start c.args.pen.now _ c.requires; few = omega arith }

pub loop-i-preserved : goal.loop-i-preserved
loop-i-preserved c = bits_on c.loop-i.invariant c.loop-i-test.true c.put_bit.ensures

pub returns : goal.returns
returns c = bits_end c.loop-i.invariant (omega arith)
