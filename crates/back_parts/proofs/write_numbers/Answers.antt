use Rattle.lib_base.proofs.Prelude.{sym, arith}
use Rattle.back_emit.proofs.WritingLaws.{room_as, wrote_as, each_of, each_start, each_room, each_turn, each_end}
use Rattle.back_parts.proofs.write_numbers.Goals as goal

pub loop-number-init : goal.loop-number-init
loop-number-init c = each_start _ _ _

pub word-requires : goal.word-requires
word-requires c = each_room _ (room_as (sym (each_of _ c.args.numbers.now)) c.requires) c.loop-number.invariant (omega arith)

pub loop-number-preserved : goal.loop-number-preserved
loop-number-preserved c = each_turn _ c.loop-number.invariant c.word.ensures

pub returns : goal.returns
returns c = wrote_as (sym (each_of _ c.args.numbers.now)) (each_end _ c.loop-number.invariant (omega arith))
