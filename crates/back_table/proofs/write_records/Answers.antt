use Rattle.lib_base.proofs.Prelude.{arith}
use Rattle.back_emit.proofs.WritingLaws.{each_end}
use Rattle.back_table.proofs.TableLaws.{recording_small, recording_start, recording_turn, recording_room}
use Rattle.back_table.proofs.write_records.Goals as goal

pub loop-e-init : goal.loop-e-init
loop-e-init c = recording_start _ _ _ _

pub count_event-count-requires : goal.count_event-count-requires
count_event-count-requires c =
    let p = c.requires.planned in record { long = p.long; few = p.few_behaviours; inside = p.inside c.loop-e.e (omega arith) }

pub write_record-requires-clause-numbers : goal.write_record-requires-clause-numbers
write_record-requires-clause-numbers c =
    let p = c.requires.planned in
    let w = recording_small c.loop-e.invariant p c.loop-e-test.true c.count_event-count.ensures in
    (omega (arith, p.few_events), p.few_behaviours, omega (arith, w), omega (arith, w))

pub write_record-requires-clause-table_bytes_in_bounds : goal.write_record-requires-clause-table_bytes_in_bounds
write_record-requires-clause-table_bytes_in_bounds c =
    let room = recording_room c.requires.room c.loop-e.invariant c.loop-e-test.true in (room.1, room.0)

pub overflow_add-start : goal.overflow_add-start
overflow_add-start c = omega (arith, recording_small c.loop-e.invariant c.requires.planned c.loop-e-test.true c.count_event-count.ensures)

pub loop-e-preserved : goal.loop-e-preserved
loop-e-preserved c = recording_turn c.loop-e.invariant c.count_event-count.ensures c.write_record.ensures

pub returns : goal.returns
returns c = each_end _ c.loop-e.invariant.so_far (omega arith)
