-- The loop keeps that what is left of `read_events` gives the whole.
use Rattle.lib_base.proofs.Prelude.{refl, length, arith}
use Rattle.std.proofs.lemmas.Result.{err_from_is_err_and}
use Rattle.front_sheet.proofs.Laws.{event_stops, event_ends, event_turns, events_over}
use Rattle.front_sheet.proofs.read_events.Goals as goal

pub loop-at-init : goal.loop-at-init
loop-at-init c =
    let pre = c.requires in
    record {
      fuel = length c.args.s.now;
      whole = refl;
      enough = omega arith;
      reached = omega arith;
      few = omega arith;
      room = omega arith;
    }

pub returns-in_err-size-clause-draft_after : goal.returns-in_err-size-clause-draft_after
returns-in_err-size-clause-draft_after c =
    let p = err_from_is_err_and c.from_residual.result c.from_residual.ensures.1 in
    rw (p.1, p.2)
    (event_stops c.loop-at.invariant c.loop-at-test.true c.read_event.ensures.draft_after c.in_err-size.was)

pub returns-in_default-clause-draft_after : goal.returns-in_default-clause-draft_after
returns-in_default-clause-draft_after c =
    (event_ends c.loop-at.invariant c.loop-at-test.true c.read_event.ensures.draft_after (rw c.in_default.is at c.in_ok-size.was)).0

pub loop-at-preserved : goal.loop-at-preserved
loop-at-preserved c =
    let call = c.read_event in
    event_turns c.loop-at.invariant c.loop-at-test.true call.ensures.draft_after (rw c.in-Some.is at c.in_ok-size.was) call.ensures.event_in

pub returns-clause-draft_after : goal.returns-clause-draft_after
returns-clause-draft_after c = (events_over c.loop-at.invariant c.loop-at-test.false).0
