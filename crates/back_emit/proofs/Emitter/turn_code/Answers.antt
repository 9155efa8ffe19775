use Rattle.back_emit.proofs.WritingLaws.{wrote_as, wrote_then, room_as, room_first, room_then}
use Rattle.back_emit.proofs.BranchLaws.{entry_within, turn_is}
use Rattle.back_emit.proofs.Emitter.turn_code.Goals as goal

pub expr-requires-clause-room : goal.expr-requires-clause-room
expr-requires-clause-room c =
    let e = c.entry_of.ensures in room_first _ _ (room_as (turn_is _ _ _ _ e _ c.nodes_of-nodes.ensures (entry_within c.args.i c.requires.entries_inside.0 e)) c.requires.room)

pub instr-requires : goal.instr-requires
instr-requires c =
    let e = c.entry_of.ensures in room_then c.expr.ensures (room_as (turn_is _ _ _ _ e _ c.nodes_of-nodes.ensures (entry_within c.args.i c.requires.entries_inside.0 e)) c.requires.room)

pub returns : goal.returns
returns c =
    let e = c.entry_of.ensures in
    wrote_as (turn_is _ _ _ _ e _ c.nodes_of-nodes.ensures (entry_within c.args.i c.requires.entries_inside.0 e)) (wrote_then c.expr.ensures c.instr.ensures)
