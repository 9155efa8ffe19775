use Rattle.lib_base.proofs.Prelude.{arith}
use Rattle.back_emit.proofs.WritingLaws.{room_as, wrote_as, each_start, each_room, each_turn, each_end}
use Rattle.back_passives.proofs.PassiveLaws.{kind_is}
use Rattle.back_passives.proofs.write_kinds.Goals as goal

pub loop-i-init : goal.loop-i-init
loop-i-init c = each_start _ _ _

pub word-requires : goal.word-requires
word-requires c = room_as (kind_is _ _ c.entry_of.ensures c.kind_of.ensures) (each_room _ c.requires.room c.loop-i.invariant (omega arith))

pub loop-i-preserved : goal.loop-i-preserved
loop-i-preserved c = each_turn _ c.loop-i.invariant (wrote_as (kind_is _ _ c.entry_of.ensures c.kind_of.ensures) c.word.ensures)

pub returns : goal.returns
returns c = each_end _ c.loop-i.invariant (omega arith)
