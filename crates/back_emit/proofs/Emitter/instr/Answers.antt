use Rattle.lib_base.proofs.Prelude.{[], ◌∷◌}
use Rattle.back_emit.proofs.WritingLaws.{wrote_then, room_first, room_then}
use Rattle.back_emit.proofs.Emitter.instr.Goals as goal

pub word-requires : goal.word-requires
word-requires c = room_first (c.args.operation ∷ []) (c.args.constant ∷ []) c.requires

pub word-requires-2 : goal.word-requires-2
word-requires-2 c = room_then {ys = c.args.constant ∷ []} c.word.ensures c.requires

pub returns : goal.returns
returns c = wrote_then c.word.ensures c.word-2.ensures
