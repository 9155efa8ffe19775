use Rattle.back_emit.proofs.WritingLaws.{wrote_as, room_as}
use Rattle.back_emit.proofs.BranchLaws.{name_load, name_fetch}
use Rattle.back_emit.proofs.Emitter.name.Goals as goal

pub instr-requires : goal.instr-requires
instr-requires c = room_as (name_load _ _ _ _ c.entry_of.ensures c.if-entry_of-eq0.true) c.requires.room

pub instr-requires-else-entry_of-eq0 : goal.instr-requires-else-entry_of-eq0
instr-requires-else-entry_of-eq0 c = room_as (name_fetch _ _ _ _ c.entry_of.ensures c.if-entry_of-eq0.false) c.requires.room

pub returns-then-entry_of-eq0 : goal.returns-then-entry_of-eq0
returns-then-entry_of-eq0 c = wrote_as (name_load _ _ _ _ c.entry_of.ensures c.if-entry_of-eq0.true) c.instr.ensures

pub returns-else-entry_of-eq0 : goal.returns-else-entry_of-eq0
returns-else-entry_of-eq0 c = wrote_as (name_fetch _ _ _ _ c.entry_of.ensures c.if-entry_of-eq0.false) c.instr-else-entry_of-eq0.ensures
