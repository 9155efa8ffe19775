-- The kinds, zeros, the start and the length, zeros; both numbers are small, so that they fit a word.
use Rattle.lib_base.proofs.Prelude.{ℕ, ◌≡◌, List, arith}
use Rattle.back_counts.specs.Counts.{count_event, count_members}
use Rattle.back_counts.proofs.CountLaws.{members_fit}
use Rattle.back_emit.proofs.WritingLaws.{wrote_long}
use Rattle.back_parts.proofs.PartLaws.{zeros_next}
use Rattle.back_passives.specs.PassiveWords.{count_again, again_start}
use Rattle.back_passives.proofs.PassiveLaws.{kinds_next, kinds_room, count_again_small, count_event_small, start_small, passive_words_wrote}
use Rattle.back_passives.proofs.write_passives.Goals as goal

started : (d : List ℕ) (ev bs : ℕ) {x a m n : ℕ} → a ≡ count_event d 0 bs → m ≡ count_members d 0 bs
    → n ≡ count_again d bs → x ≡ again_start ev a m n
    → x ≡ again_start ev (count_event d 0 bs) (count_members d 0 bs) (count_again d bs)
started d ev bs e f g h = rw (← e, ← f, ← g) h

pub write_kinds-requires-clause-room : goal.write_kinds-requires-clause-room
write_kinds-requires-clause-room c = kinds_room _ _ (omega (arith, c.requires.0.few)) (omega arith)

pub zeros-requires : goal.zeros-requires
zeros-requires c =
    let w = c.write_kinds.ensures in
    (omega (arith, wrote_long w), omega (arith, kinds_next c.args.draft.now c.args.behaviours w, c.requires.0.few), omega arith)

pub passives_start-start-requires : goal.passives_start-start-requires
passives_start-start-requires c =
    let s = c.requires.0 in
    let m = members_fit _ _ _ _ c.count_members-m.ensures s.few in
    omega (arith, c.passives_length-count.ensures, count_again_small c.args.draft.now c.args.behaviours s)

pub overflow_cast-start : goal.overflow_cast-start
overflow_cast-start c =
    omega (
      arith,
      c.passives_start-start.ensures,
      c.count_event-all.ensures,
      count_event_small c.args.draft.now c.args.behaviours c.requires.0,
      start_small c.args.events c.count_event-all.result c.count_members-m.result c.passives_length-count.result,
    )

pub overflow_cast-count : goal.overflow_cast-count
overflow_cast-count c = omega (arith, c.passives_length-count.ensures, count_again_small c.args.draft.now c.args.behaviours c.requires.0)

pub word-requires : goal.word-requires
word-requires c =
    let w = c.write_kinds.ensures in
    let z = zeros_next 360 (omega (arith, kinds_next c.args.draft.now c.args.behaviours w, c.requires.0.few)) c.zeros.ensures in
    record { within = omega (arith, z); long = omega (arith, wrote_long w, wrote_long c.zeros.ensures) }

pub word-requires-2 : goal.word-requires-2
word-requires-2 c =
    let w = c.write_kinds.ensures in
    let z = zeros_next 360 (omega (arith, kinds_next c.args.draft.now c.args.behaviours w, c.requires.0.few)) c.zeros.ensures in
    let x = c.word.ensures in
    record { within = omega (arith, z, x.next); long = omega (arith, wrote_long w, wrote_long c.zeros.ensures, wrote_long x) }

pub zeros-requires-2 : goal.zeros-requires-2
zeros-requires-2 c =
    let w = c.write_kinds.ensures in
    let z = zeros_next 360 (omega (arith, kinds_next c.args.draft.now c.args.behaviours w, c.requires.0.few)) c.zeros.ensures in
    let x = c.word.ensures in
    let y = c.word-2.ensures in
    (omega (arith, wrote_long w, wrote_long c.zeros.ensures, wrote_long x, wrote_long y), omega (arith, z, x.next, y.next), omega arith)

pub returns : goal.returns
returns c =
    let count = c.passives_length-count.ensures in
    let start = started _ _ _ c.count_event-all.ensures c.count_members-m.ensures count c.passives_start-start.ensures in
    let r = passive_words_wrote _ _ _ c.requires.0.few c.write_kinds.ensures c.zeros.ensures start count c.word.ensures c.word-2.ensures c.zeros-2.ensures in
    record { wrote = r.0; value = r.1 }
