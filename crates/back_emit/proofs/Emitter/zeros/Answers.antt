use Rattle.lib_base.proofs.Prelude.{arith}
use Rattle.back_emit.proofs.WritingLaws.{wrote_long, zeros_start, zeros_turn, zeros_end}
use Rattle.back_emit.proofs.Emitter.zeros.Goals as goal

pub loop-self-init : goal.loop-self-init
loop-self-init c = zeros_start _ _ _ c.requires.1

pub word-requires : goal.word-requires
word-requires c = record { within = omega arith; long = omega (arith, wrote_long c.loop-self.invariant.wrote) }

pub loop-self-preserved : goal.loop-self-preserved
loop-self-preserved c = zeros_turn c.loop-self.invariant c.loop-self-test.true c.word.ensures

pub returns : goal.returns
returns c = zeros_end c.loop-self.invariant (omega arith)
