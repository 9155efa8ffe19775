-- A table and a round that are not foreign are sound.
use Rattle.lib_base.proofs.Prelude.{◌∙◌, sym}
use Rattle.run_step.proofs.Fits.{ours_sound}
use Rattle.run_deliver.proofs.take_entry.Goals as goal

pub deliver_known-requires : goal.deliver_known-requires
deliver_known-requires c =
    let within = c.in_ok-judge_entry.ensures.in_limits in
    (ours_sound _ _ (sym c.is_ours.ensures.value ∙ c.if-not-is_ours.false), within.2, within.1, within.0)
