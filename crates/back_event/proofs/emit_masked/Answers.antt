use Rattle.back_event.proofs.HandlerLaws.{masked_begin, masked_members, masked_end, masked_all}
use Rattle.back_event.proofs.emit_masked.Goals as goal

pub instr-requires : goal.instr-requires
instr-requires c = masked_begin _ _ _ _ c.requires.room

pub emit_members-requires-clause-room : goal.emit_members-requires-clause-room
emit_members-requires-clause-room c = masked_members _ _ _ _ c.requires.room c.instr.ensures

pub instr-requires-2 : goal.instr-requires-2
instr-requires-2 c = masked_end _ _ _ _ c.requires.room c.instr.ensures c.emit_members.ensures

pub returns : goal.returns
returns c = masked_all _ _ _ _ c.instr.ensures c.emit_members.ensures c.instr-2.ensures
