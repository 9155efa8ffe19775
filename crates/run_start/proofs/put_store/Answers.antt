-- One value more stands in the store.
use Rattle.lib_base.proofs.Prelude.{◌∙◌, ap, refl, add-one, length}
use Rattle.lib_word.proofs.Laws.{length_put}
use Rattle.run_start.specs.Start.{stored}
use Rattle.run_start.proofs.put_store.Goals as goal

pub loop-i-init : goal.loop-i-init
unfolding stored
loop-i-init c = (refl, refl)

pub loop-i-preserved : goal.loop-i-preserved
unfolding stored
loop-i-preserved c = (
  rw (add-one c.loop-i.i, ← c.loop-i.invariant.0) c.put_word.ensures,
  ap length c.put_word.ensures ∙ length_put _ _ _ ∙ c.loop-i.invariant.1,
)
