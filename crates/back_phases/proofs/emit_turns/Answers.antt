use Rattle.lib_base.proofs.Prelude.{sym, arith}
use Rattle.back_counts.proofs.CountLaws.{sound_at}
use Rattle.back_emit.proofs.WritingLaws.{room_as, wrote_as, each_of, each_start, each_room, each_turn, each_end}
use Rattle.back_phases.proofs.emit_turns.Goals as goal

pub loop-i-init : goal.loop-i-init
loop-i-init c = each_start _ _ _

pub turn_code-requires-clause-entries_inside : goal.turn_code-requires-clause-entries_inside
turn_code-requires-clause-entries_inside c =
    (sound_at c.requires.entries_inside.0 (c.requires.entries_inside.1.below c.loop-i.i-index (omega arith)), omega arith)

pub turn_code-requires-clause-room : goal.turn_code-requires-clause-room
turn_code-requires-clause-room c = each_room _ (room_as (sym (each_of _ c.args.order.now)) c.requires.room) c.loop-i.invariant (omega arith)

pub loop-i-preserved : goal.loop-i-preserved
loop-i-preserved c = each_turn _ c.loop-i.invariant c.turn_code.ensures

pub returns : goal.returns
returns c = wrote_as (sym (each_of _ c.args.order.now)) (each_end _ c.loop-i.invariant (omega arith))
