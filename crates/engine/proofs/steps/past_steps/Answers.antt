-- Table and round that are judged are sound.
use Rattle.lib_base.proofs.Prelude.{◌∙◌, sym, arith}
use Rattle.run_step.proofs.Fits.{ours_sound}
use Rattle.engine.proofs.steps.past_steps.Goals as goal

pub steps_from-requires : goal.steps_from-requires
steps_from-requires c =
    (ours_sound _ _ (sym c.is_ours.ensures.value ∙ c.if-not-is_ours.false), omega (arith, c.requires.0), c.requires.1, c.requires.2)
