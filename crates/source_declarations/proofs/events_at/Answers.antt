-- What each return comes to, and that a turn keeps what the loop keeps.
use Rattle.lib_base.proofs.Prelude.{arith}
use Rattle.std.proofs.lemmas.Result.{err_from_is_err_and}
use Rattle.source_declarations.proofs.Events.{events_start, events_stop, events_fault_law, events_room_law, events_onward, events_turn}
use Rattle.source_declarations.proofs.events_at.Goals as goal

pub loop-word-init : goal.loop-word-init
loop-word-init c = let pre = c.requires in events_start _ _ _ _ _ pre.1.0 pre.1.1.0 pre.1.1.1

pub returns-clause-events_read : goal.returns-clause-events_read
returns-clause-events_read c = events_stop _ _ c.loop-word.invariant c.sign_due.ensures.sign_told c.in_default.is

pub returns-in_err-event-clause-events_read : goal.returns-in_err-event-clause-events_read
returns-in_err-event-clause-events_read c =
    let e = err_from_is_err_and c.from_residual.result c.from_residual.ensures.1 in
    Prim.rw (e.1, e.2)
    (events_fault_law _ _ _ _ _ _ c.loop-word.invariant c.sign_due.ensures.sign_told c.in-Ok.is c.event_from.ensures.text_event_read c.in_err-event.was)

pub loop-word-preserved : goal.loop-word-preserved
loop-word-preserved c =
    let turn = c.loop-word.invariant in
    let further = events_onward _ _ _ _ _ _ _ _ _ turn c.sign_due.ensures.due_within c.in-Ok.is c.event_from.ensures.event_within c.in_ok-event.was in
    events_turn _ _ _ _ _ _ _ _ _ _ _ turn c.sign_due.ensures.sign_told c.in-Ok.is c.event_from.ensures.text_event_read c.in_ok-event.was further c.put_event-end.ensures.out_after c.put_event-end.ensures.value

pub bounds-events-count : goal.bounds-events-count
bounds-events-count c =
    let turn = c.loop-word.invariant in
    let room = events_room_law _ _ _ _ _ _ _ _ _ turn c.in-Ok.is c.event_from.ensures.text_event_read c.in_ok-event.was in
    omega (arith, turn.kept)
