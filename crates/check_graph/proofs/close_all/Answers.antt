use Rattle.lib_base.proofs.Prelude.{arith}
use Rattle.check_graph.proofs.Passes.{closing_start, closing_turn, closing_end}
use Rattle.check_graph.proofs.close_all.Goals as goal

pub loop-k-init : goal.loop-k-init
loop-k-init c = closing_start _ _ c.requires

pub loop-k-preserved : goal.loop-k-preserved
loop-k-preserved c = closing_turn c.loop-k.invariant c.requires c.loop-k-test.true c.pass.ensures

pub returns : goal.returns
returns c = closing_end c.loop-k.invariant (omega arith)
