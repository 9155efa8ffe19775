-- What each return comes to, and that a turn keeps what the loop keeps.
use Rattle.lib_base.proofs.Prelude.{arith}
use Rattle.std.proofs.lemmas.Result.{err_from_is_err_and}
use Rattle.source_handlers.proofs.Loop.{turn_start, turn_over, turn_event_fault, turn_body_fault, turn_on}
use Rattle.source_handlers.proofs.handlers_at.Goals as goal

pub loop-on-init : goal.loop-on-init
loop-on-init c = turn_start _ _ _ _ _ _ _ c.requires.readable.1.0

pub returns-clause-handlers_read : goal.returns-clause-handlers_read
returns-clause-handlers_read c =
    let h = rw c.in_default.is at c.sign_due.ensures.sign_told in
    turn_over _ _ _ _ _ _ _ c.loop-on.invariant h.0

pub returns-in_err-event-clause-handlers_read : goal.returns-in_err-event-clause-handlers_read
returns-in_err-event-clause-handlers_read c =
    let e = err_from_is_err_and c.from_residual.result c.from_residual.ensures.1 in
    let h = rw c.in-Ok.is at c.sign_due.ensures.sign_told in
    let d = rw c.in_err-event.was at c.event_due.ensures.handled_event_read in
    Prim.rw (e.1, e.2) (turn_event_fault _ _ _ _ _ _ _ c.loop-on.invariant _ _ h c.args.out.now _ d)

pub returns-in_err-handler-clause-handlers_read : goal.returns-in_err-handler-clause-handlers_read
returns-in_err-handler-clause-handlers_read c =
    let e = err_from_is_err_and c.from_residual-in_err-handler.result c.from_residual-in_err-handler.ensures.1 in
    let h = rw c.in-Ok.is at c.sign_due.ensures.sign_told in
    let d = rw c.in_ok-event.was at c.event_due.ensures.handled_event_read in
    let r = rw c.in_err-handler.was at c.body_at.ensures.handler_read in
    Prim.rw (e.1, e.2) (turn_body_fault _ _ _ _ _ _ _ c.loop-on.invariant _ _ h c.args.out.now c.args.out.now 0 _ _ _ d r)

pub loop-on-preserved : goal.loop-on-preserved
loop-on-preserved c =
    let t = c.loop-on.invariant in
    let h = rw c.in-Ok.is at c.sign_due.ensures.sign_told in
    let g = rw c.in-Ok.is at c.sign_due.ensures.due_within in
    let k = rw c.in_ok-event.was at c.event_due.ensures.handled_event_read in
    let i = rw c.in_ok-event.was at c.event_due.ensures.due_within in
    let m = rw c.in_ok-event.was at c.event_due.ensures.handled_event_within in
    let q = rw c.in_ok-handler.was at c.body_at.ensures.handler_read in
    let j = rw c.in_ok-handler.was at c.body_at.ensures.part_within in
    rw c.or.ensures
    (turn_on _ _ _ _ _ _ _ t _ _ h _ 0 _ _ _ _ _ k q m c.requires.events_len_bound.0 (omega arith) j.1 j.2 (omega arith) c.body_at.ensures.out_len_unchanged)
