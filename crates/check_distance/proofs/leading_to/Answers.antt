use Rattle.check_distance.proofs.LayerLaws.{led_start, led_turn}
use Rattle.check_distance.proofs.leading_to.Goals as goal

pub loop-j-init : goal.loop-j-init
loop-j-init c = led_start _ _ _

pub loop-j-preserved : goal.loop-j-preserved
loop-j-preserved c = led_turn _ _ c.requires.0 c.requires.1 c.loop-j.invariant c.loop-j-test.true c.add_leading-found.ensures
