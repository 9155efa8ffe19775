-- The check finds a cycle, or the order in which the steps are written; what they write stands in a row.
use Rattle.lib_base.proofs.Prelude.{arith}
use Rattle.back_counts.proofs.CountLaws.{members_fit}
use Rattle.back_schedule.proofs.OrderingLaws.{found_none}
use Rattle.back_emit.proofs.WritingLaws.{wrote_none, wrote_as}
use Rattle.back_event.proofs.HandlerLaws.{behind_copy, room_first_phase, room_second_phase, room_copy}
use Rattle.back_event.proofs.HandlerLaws.{room_restore, steps_wrote, code_none, in_order}
use Rattle.back_event.proofs.compile_event.Goals as goal

pub returns-in_default : goal.returns-in_default
returns-in_default c =
    wrote_as (code_none _ _ _ (found_none c.args.draft.now c.args.event c.args.behaviours _ _ c.check_dependence-found.ensures c.in_default.is)) (wrote_none _ _)

pub overflow_add-out : goal.overflow_add-out
overflow_add-out c = omega (arith, members_fit c.args.draft.now c.args.event c.args.behaviours _ c.count_members.ensures c.requires.entries_inside.0.few)

pub overflow_mul-out : goal.overflow_mul-out
overflow_mul-out c = omega (arith, members_fit c.args.draft.now c.args.event c.args.behaviours _ c.count_members.ensures c.requires.entries_inside.0.few)

pub overflow_add-out-2 : goal.overflow_add-out-2
overflow_add-out-2 c = omega (arith, members_fit _ _ _ _ c.count_members.ensures c.requires.entries_inside.0.few, c.requires.room.within)

pub phase_one-requires-clause-room : goal.phase_one-requires-clause-room
phase_one-requires-clause-room c =
    let a = c.args in
    let o = in_order _ _ _ c.check_dependence-found.ensures c.in-Some.is c.requires.room in
    let b = behind_copy a.draft.now a.event a.behaviours a.out.now.place _ c.count_members.ensures in
    room_first_phase _ _ _ _ o.1.1 b

pub phase_two-requires-clause-room : goal.phase_two-requires-clause-room
phase_two-requires-clause-room c =
    let a = c.args in
    let o = in_order _ _ _ c.check_dependence-found.ensures c.in-Some.is c.requires.room in
    let b = behind_copy a.draft.now a.event a.behaviours a.out.now.place _ c.count_members.ensures in
    room_second_phase _ _ _ _ o.1.1 b c.phase_one.ensures

pub emit_masked-requires-clause-room : goal.emit_masked-requires-clause-room
emit_masked-requires-clause-room c =
    let a = c.args in
    let o = in_order _ _ _ c.check_dependence-found.ensures c.in-Some.is c.requires.room in
    let b = behind_copy a.draft.now a.event a.behaviours a.out.now.place _ c.count_members.ensures in
    room_copy _ _ _ _ o.1.1 b c.phase_one.ensures c.phase_two.ensures

pub emit_masked-requires-2-clause-room : goal.emit_masked-requires-2-clause-room
emit_masked-requires-2-clause-room c =
    let a = c.args in
    let o = in_order _ _ _ c.check_dependence-found.ensures c.in-Some.is c.requires.room in
    let b = behind_copy a.draft.now a.event a.behaviours a.out.now.place _ c.count_members.ensures in
    room_restore _ _ _ _ o.1.1 b c.phase_one.ensures c.phase_two.ensures c.emit_masked.ensures

pub returns : goal.returns
returns c =
    let a = c.args in
    let o = in_order _ _ _ c.check_dependence-found.ensures c.in-Some.is c.requires.room in
    let b = behind_copy a.draft.now a.event a.behaviours a.out.now.place _ c.count_members.ensures in
    wrote_as o.1.0 (steps_wrote _ _ _ _ o.1.1 b c.phase_one.ensures c.phase_two.ensures c.emit_masked.ensures c.emit_masked-2.ensures)
