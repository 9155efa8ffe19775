-- A burst that ends in the last step ends the loop; after any other it goes on as it began.
use Rattle.lib_base.proofs.Prelude.{refl, rules}
use Rattle.run_preview.proofs.ToIdle.{spent, ended, turn}
use Rattle.run_preview.proofs.run_to_idle.Goals as goal

pub loop-left-init : goal.loop-left-init
loop-left-init c = record { whole = refl; sound = c.requires; as_long = refl }

pub burst_on-stop-requires : goal.burst_on-stop-requires
burst_on-stop-requires c = c.loop-left.invariant.sound

pub returns-then-is_unmade : goal.returns-then-is_unmade
returns-then-is_unmade c =
    ended c.loop-left.invariant c.loop-left-test.true c.burst_on-stop.ensures.round_after c.is_unmade.ensures c.if-is_unmade.true

pub loop-left-preserved : goal.loop-left-preserved
loop-left-preserved c =
    (turn c.loop-left.invariant c.loop-left-test.true c.burst_on-stop.ensures.round_after c.is_unmade.ensures c.if-is_unmade.false
    c.burst_on-stop.ensures.round_sound (search rules)).0

pub loop-left-smaller : goal.loop-left-smaller
loop-left-smaller c =
    (turn c.loop-left.invariant c.loop-left-test.true c.burst_on-stop.ensures.round_after c.is_unmade.ensures c.if-is_unmade.false
    c.burst_on-stop.ensures.round_sound (search rules)).1

pub returns : goal.returns
returns c = spent c.loop-left.invariant c.loop-left-test.false
