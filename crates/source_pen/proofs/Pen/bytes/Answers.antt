use Rattle.source_pen.proofs.Pens.{penned_none, run_turn}
use Rattle.source_pen.proofs.Pen.bytes.Goals as goal

pub loop-b-init : goal.loop-b-init
loop-b-init c = penned_none _

pub loop-b-preserved : goal.loop-b-preserved
loop-b-preserved c = run_turn _ _ c.loop-b.invariant c.loop-b-test.true c.byte.ensures
