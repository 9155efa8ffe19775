use Rattle.back_emit.proofs.WritingLaws.{wrote_then, room_first, room_then}
use Rattle.back_phases.specs.Phases.{first_words}
use Rattle.back_phases.proofs.phase_one.Goals as goal

pub emit_turns-requires-clause-room : goal.emit_turns-requires-clause-room
unfolding first_words
emit_turns-requires-clause-room c = room_first _ _ c.requires.room

pub emit_laters-requires-clause-room : goal.emit_laters-requires-clause-room
unfolding first_words
emit_laters-requires-clause-room c = room_then c.emit_turns.ensures c.requires.room

pub returns : goal.returns
unfolding first_words
returns c = wrote_then c.emit_turns.ensures c.emit_laters.ensures
