-- The order of no event, and the passives in it.
use Rattle.lib_base.proofs.Prelude.{arith}
use Rattle.back_schedule.proofs.OrderingLaws.{listed_alone}
use Rattle.back_emit.proofs.WritingLaws.{wrote_as, room_as}
use Rattle.back_table.proofs.TableLaws.{planned_inside, planned_sound, alone_as}
use Rattle.back_table.proofs.write_passive_code.Goals as goal

pub order_under-count-requires : goal.order_under-count-requires
order_under-count-requires c =
    let p = c.requires.planned in (omega arith, p.few_behaviours, λ i b. planned_inside p _ i b (omega arith))

pub emit_passives-requires-clause-entries_inside : goal.emit_passives-requires-clause-entries_inside
emit_passives-requires-clause-entries_inside c = (planned_sound c.requires.planned, listed_alone c.order_under-count.ensures.listed)

pub emit_passives-requires-clause-room : goal.emit_passives-requires-clause-room
emit_passives-requires-clause-room c = room_as (alone_as _ _ c.order_under-count.ensures) c.requires.room

pub returns : goal.returns
returns c = wrote_as (alone_as _ _ c.order_under-count.ensures) c.emit_passives.ensures
