use Rattle.lib_base.proofs.Prelude.{rules}
use Rattle.back_emit.proofs.WritingLaws.{wrote_as, room_as}
use Rattle.back_emit.proofs.BranchLaws.{node_push, node_name, node_apply}
use Rattle.back_emit.proofs.Emitter.node.Goals as goal

pub instr-requires : goal.instr-requires
instr-requires c = room_as (node_push _ _ _ c.node_tag.ensures c.node_word-word.ensures c.in-16.is) c.requires

pub name-requires-clause-room : goal.name-requires-clause-room
name-requires-clause-room c = room_as (node_name _ _ _ c.node_tag.ensures c.node_word-word.ensures c.in-17.is) c.requires

pub instr-requires-in_default : goal.instr-requires-in_default
instr-requires-in_default c = room_as (node_apply _ _ _ c.node_tag.ensures c.node_word-word.ensures (search rules) (search rules)) c.requires

pub returns-in-16 : goal.returns-in-16
returns-in-16 c = wrote_as (node_push _ _ _ c.node_tag.ensures c.node_word-word.ensures c.in-16.is) c.instr.ensures

pub returns-in-17 : goal.returns-in-17
returns-in-17 c = wrote_as (node_name _ _ _ c.node_tag.ensures c.node_word-word.ensures c.in-17.is) c.name.ensures

pub returns-in_default : goal.returns-in_default
returns-in_default c = wrote_as (node_apply _ _ _ c.node_tag.ensures c.node_word-word.ensures (search rules) (search rules)) c.instr-in_default.ensures
