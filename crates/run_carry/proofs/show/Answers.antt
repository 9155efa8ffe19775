-- One behaviour more is shown.
use Rattle.lib_base.proofs.Prelude.{◌∙◌, ap, refl, add-one, length}
use Rattle.lib_word.proofs.Laws.{length_put}
use Rattle.run_carry.specs.Carry.{store_shown}
use Rattle.run_carry.proofs.show.Goals as goal

pub loop-i-init : goal.loop-i-init
unfolding store_shown
loop-i-init c = (refl, refl)

pub loop-i-preserved : goal.loop-i-preserved
unfolding store_shown
loop-i-preserved c = (
  rw (add-one c.loop-i.i, ← c.loop-i.invariant.0, ← c.shown_for.ensures) c.put_word.ensures,
  ap length c.put_word.ensures ∙ length_put _ _ _ ∙ c.loop-i.invariant.1,
)
