-- The loop keeps that what is left of `handlers_of` gives the whole.
use Rattle.lib_base.proofs.Prelude.{refl, length, arith}
use Rattle.std.proofs.lemmas.Result.{err_from_is_err_and}
use Rattle.front_behaviours.proofs.Laws.{handler_stops, handler_turns, handler_ends, handler_eight}
use Rattle.front_behaviours.proofs.read_handlers.Goals as goal

pub loop-at-init : goal.loop-at-init
loop-at-init c =
    let pre = c.requires in
    record {
      fuel = length c.args.v.now;
      whole = refl;
      enough = omega arith;
      begun = omega arith;
      reached = omega arith;
      nodes = omega arith;
      onwards = omega arith;
      room = omega arith;
    }

pub returns-then-v-at-eq-VIEWERS-clause-draft_after :
    goal.returns-then-v-at-eq-VIEWERS-clause-draft_after
returns-then-v-at-eq-VIEWERS-clause-draft_after c =
    (handler_eight c.loop-at.invariant c.loop-at-test.true c.if-v-at-eq-VIEWERS.true).0

pub returns-in_err-handler-clause-draft_after : goal.returns-in_err-handler-clause-draft_after
returns-in_err-handler-clause-draft_after c =
    let p = err_from_is_err_and c.from_residual.result c.from_residual.ensures.1 in
    rw (p.1, p.2)
    (handler_stops c.loop-at.invariant c.loop-at-test.true c.if-v-at-eq-VIEWERS.false c.read_handler.ensures.draft_after c.in_err-handler.was)

pub loop-at-preserved : goal.loop-at-preserved
loop-at-preserved c =
    let call = c.read_handler in
    handler_turns c.loop-at.invariant c.loop-at-test.true c.if-v-at-eq-VIEWERS.false call.ensures.draft_after c.in_ok-handler.was call.ensures.read_in

pub returns-clause-draft_after : goal.returns-clause-draft_after
returns-clause-draft_after c = (handler_ends c.loop-at.invariant c.loop-at-test.false).0
