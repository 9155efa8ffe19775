-- One event more: its code is within its bound.
use Rattle.lib_base.proofs.Prelude.{refl, add-one, arith}
use Rattle.run_forecast.specs.Steps.{longest_in}
use Rattle.run_forecast.proofs.longest_of.Goals as goal

pub loop-event-init : goal.loop-event-init
unfolding longest_in
loop-event-init c = (refl, omega arith)

pub loop-event-preserved : goal.loop-event-preserved
unfolding longest_in
loop-event-preserved c =
    let e = c.loop-event.event in (
      rw (add-one e, ← c.event_word.ensures, ← c.loop-event.invariant.0) c.max-longest.ensures,
      omega (arith, c.loop-event.invariant.1, c.requires.0.codes e (omega arith), c.event_word.ensures, c.max-longest.ensures),
    )
