use Rattle.back_emit.proofs.WritingLaws.{wrote_then, room_first, room_then}
use Rattle.back_phases.specs.Phases.{second_words}
use Rattle.back_phases.proofs.phase_two.Goals as goal

pub emit_moves-requires-clause-room : goal.emit_moves-requires-clause-room
unfolding second_words
emit_moves-requires-clause-room c = room_first _ _ c.requires.room

pub emit_passives-requires-clause-room : goal.emit_passives-requires-clause-room
unfolding second_words
emit_passives-requires-clause-room c = room_then c.emit_moves.ensures c.requires.room

pub returns : goal.returns
unfolding second_words
returns c = wrote_then c.emit_moves.ensures c.emit_passives.ensures
