-- One behaviour more is filled.
use Rattle.lib_base.proofs.Prelude.{◌∙◌, ap, refl, add-one, length}
use Rattle.run_carry.specs.Carry.{filled_store}
use Rattle.run_carry.proofs.CarryLaws.{length_fill_at}
use Rattle.run_carry.proofs.fill.Goals as goal

pub loop-i-init : goal.loop-i-init
unfolding filled_store
loop-i-init c = (refl, refl)

pub loop-i-preserved : goal.loop-i-preserved
unfolding filled_store
loop-i-preserved c = (
  rw (add-one c.loop-i.i, ← c.loop-i.invariant.0, ← c.value_for.ensures) c.fill_at.ensures,
  ap length c.fill_at.ensures ∙ length_fill_at _ _ _ ∙ c.loop-i.invariant.1,
)
