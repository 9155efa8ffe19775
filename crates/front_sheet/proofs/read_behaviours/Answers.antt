-- The loop keeps that what is left of `behaviours_of` gives the whole.
use Rattle.lib_base.proofs.Prelude.{refl, length, arith}
use Rattle.std.proofs.lemmas.Result.{err_from_is_err_and}
use Rattle.front_sheet.proofs.Laws.{behaviour_stops, behaviour_turns, behaviours_end}
use Rattle.front_sheet.proofs.read_behaviours.Goals as goal

pub loop-at-init : goal.loop-at-init
loop-at-init c =
    let pre = c.requires in
    record {
      fuel = length c.args.s.now;
      whole = refl;
      enough = omega arith;
      reached = omega arith;
      nodes = omega arith;
      few = omega arith;
      room = omega arith;
    }

pub returns-in_err-behaviour : goal.returns-in_err-behaviour
returns-in_err-behaviour c =
    let p = err_from_is_err_and c.from_residual.result c.from_residual.ensures.1 in
    rw (p.1, p.2)
    (behaviour_stops c.loop-at.invariant c.loop-at-test.true c.read_behaviour.ensures.draft_after c.in_err-behaviour.was)

pub loop-at-preserved : goal.loop-at-preserved
loop-at-preserved c =
    let k = c.read_behaviour in
    behaviour_turns c.loop-at.invariant c.loop-at-test.true k.ensures.draft_after c.in_ok-behaviour.was k.ensures.read_in k.ensures.counted c.cells_at-i.ensures.value c.cells_at-i.ensures.upper_bound

pub returns : goal.returns
returns c = behaviours_end c.loop-at.invariant c.loop-at-test.false
