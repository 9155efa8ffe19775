use Rattle.lib_base.proofs.Prelude.{arith}
use Rattle.back_emit.proofs.WritingLaws.{each_start, each_room, each_turn, each_end}
use Rattle.back_phases.proofs.emit_moves.Goals as goal

pub loop-i-init : goal.loop-i-init
loop-i-init c = each_start _ _ _

pub later_move-requires-clause-room : goal.later_move-requires-clause-room
later_move-requires-clause-room c = each_room _ c.requires.room c.loop-i.invariant (omega arith)

pub loop-i-preserved : goal.loop-i-preserved
loop-i-preserved c = each_turn _ c.loop-i.invariant c.later_move.ensures

pub returns : goal.returns
returns c = each_end _ c.loop-i.invariant (omega arith)
