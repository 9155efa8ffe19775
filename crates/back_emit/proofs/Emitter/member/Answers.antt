use Rattle.back_emit.proofs.WritingLaws.{wrote_none, wrote_as, room_as}
use Rattle.back_emit.proofs.BranchLaws.{member_none, member_some}
use Rattle.back_emit.proofs.Emitter.member.Goals as goal

pub instr-requires : goal.instr-requires
instr-requires c = room_as (member_some _ _ _ _ c.entry_of.ensures _ c.if-entry_of-ne0.true) c.requires.room

pub returns-then-entry_of-ne0 : goal.returns-then-entry_of-ne0
returns-then-entry_of-ne0 c = wrote_as (member_some _ _ _ _ c.entry_of.ensures _ c.if-entry_of-ne0.true) c.instr.ensures

pub returns-else-entry_of-ne0 : goal.returns-else-entry_of-ne0
returns-else-entry_of-ne0 c = wrote_as (member_none _ _ _ _ c.entry_of.ensures _ c.if-entry_of-ne0.false) (wrote_none _ _)
