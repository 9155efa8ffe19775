-- By what stands there: a name that is not declared, or an event.
use Rattle.lib_base.proofs.Prelude.{refl, arith}
use Rattle.source_handlers.proofs.Events.{event_unknown, event_found}
use Rattle.source_handlers.proofs.event_due.Goals as goal

pub returns-then-e-events-clause-handled_event_read : goal.returns-then-e-events-clause-handled_event_read
returns-then-e-events-clause-handled_event_read c =
    let h = rw c.in_ok-place.was at c.name_due.ensures.name_told in
    event_unknown _ _ c.args.handled.now _ _ _ _ h c.index_of-e.ensures.value _ c.if-handled-e-eq1.false (omega arith) refl

pub returns-clause-handled_event_read : goal.returns-clause-handled_event_read
returns-clause-handled_event_read c =
    let h = rw c.in_ok-place.was at c.name_due.ensures.name_told in
    event_found _ _ c.args.handled.now _ _ _ _ h c.index_of-e.ensures.value c.if-handled-e-eq1.false (omega (arith, c.index_of-e.ensures.upper_bound))
