use Rattle.lib_base.proofs.Prelude.{arith}
use Rattle.back_counts.proofs.CountLaws.{members_fit}
use Rattle.back_emit.proofs.WritingLaws.{wrote_long, wrote_then}
use Rattle.back_parts.proofs.write_record.Goals as goal

pub word-requires-2 : goal.word-requires-2
word-requires-2 c = record { within = omega (arith, c.word.ensures.next); long = omega (arith, wrote_long c.word.ensures) }

pub word-requires-3 : goal.word-requires-3
word-requires-3 c =
    record {
      within = omega (arith, c.word.ensures.next, c.word-2.ensures.next);
      long = omega (arith, wrote_long c.word.ensures, wrote_long c.word-2.ensures);
    }

pub word-requires-4 : goal.word-requires-4
word-requires-4 c =
    record {
      within = omega (arith, c.word.ensures.next, c.word-2.ensures.next, c.word-3.ensures.next);
      long = omega (arith, wrote_long c.word.ensures, wrote_long c.word-2.ensures, wrote_long c.word-3.ensures);
    }

pub overflow_cast-count_members : goal.overflow_cast-count_members
overflow_cast-count_members c = omega (arith, members_fit _ _ _ _ c.count_members.ensures c.requires.numbers.1)

pub returns : goal.returns
returns c =
    rw (← c.count_members.ensures) (wrote_then c.word.ensures (wrote_then c.word-2.ensures (wrote_then c.word-3.ensures c.word-4.ensures)))
