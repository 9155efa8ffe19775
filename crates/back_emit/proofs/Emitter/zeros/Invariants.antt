-- Zeros are written up to the next word.
use Rattle.lib_base.proofs.Prelude.{◌-◌}
use Rattle.back_emit.proofs.WritingLaws.{Zeros}
use Rattle.back_emit.proofs.Emitter.zeros.Given as goal

abbrev pub invariant-loop-self : goal.invariant-loop-self
invariant-loop-self l = Zeros l.fn.self.table l.fn.self.place l.end l.self.table l.self.place

abbrev pub decreases-loop-self : goal.decreases-loop-self
decreases-loop-self l = l.end - l.self.place
