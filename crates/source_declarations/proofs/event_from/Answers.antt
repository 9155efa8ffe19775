-- Too many, no name, a name that is declared twice, and one that is new.
use Rattle.lib_base.proofs.Prelude.{refl}
use Rattle.std.proofs.lemmas.Result.{err_from_is_err_and}
use Rattle.source_declarations.proofs.Events.{event_crowded, event_unnamed, event_twice, event_new}
use Rattle.source_declarations.proofs.event_from.Goals as goal

pub returns-then-count-ge-EVENTS-clause-text_event_read : goal.returns-then-count-ge-EVENTS-clause-text_event_read
returns-then-count-ge-EVENTS-clause-text_event_read c = event_crowded _ _ _ _ _ _ c.if-count-ge-EVENTS.true refl

pub returns-in_err-place-clause-text_event_read : goal.returns-in_err-place-clause-text_event_read
returns-in_err-place-clause-text_event_read c =
    let e = err_from_is_err_and c.from_residual.result c.from_residual.ensures.1 in
    Prim.rw (e.1, e.2) (event_unnamed _ _ _ _ _ _ _ c.if-count-ge-EVENTS.false c.name_due.ensures.name_told c.in_err-place.was)

pub returns-then-is_among-clause-text_event_read : goal.returns-then-is_among-clause-text_event_read
returns-then-is_among-clause-text_event_read c =
    event_twice _ _ _ _ _ _ _ _ _ _ _ c.if-count-ge-EVENTS.false c.name_due.ensures.name_told c.in_ok-place.was c.is_among.ensures c.if-is_among.true refl

pub returns-clause-text_event_read : goal.returns-clause-text_event_read
returns-clause-text_event_read c =
    event_new _ _ _ _ _ _ _ _ _ _ _ c.if-count-ge-EVENTS.false c.name_due.ensures.name_told c.in_ok-place.was c.is_among.ensures c.if-is_among.false c.ranked_at.ensures.text_event_read
