use Rattle.lib_base.proofs.Prelude.{arith}
use Rattle.back_emit.proofs.WritingLaws.{wrote_long, wrote_then}
use Rattle.back_parts.proofs.PartLaws.{wrote_padded}
use Rattle.back_parts.proofs.write_head.Goals as goal

pub word-requires-2 : goal.word-requires-2
word-requires-2 c = record { within = omega (arith, c.word.ensures.next); long = omega (arith, wrote_long c.word.ensures) }

pub zeros-requires : goal.zeros-requires
zeros-requires c =
    (omega (arith, wrote_long c.word.ensures, wrote_long c.word-2.ensures), omega (arith, c.word.ensures.next, c.word-2.ensures.next), omega arith)

pub returns : goal.returns
returns c = wrote_padded 8 (wrote_then c.word.ensures c.word-2.ensures) c.zeros.ensures
