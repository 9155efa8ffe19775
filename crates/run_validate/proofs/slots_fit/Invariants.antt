-- `fit` is so of the first i.
use Rattle.lib_base.proofs.Prelude.{◌≡◌}
use Rattle.format_layout.specs.Foreign.{slots_fit}
use Rattle.run_validate.proofs.slots_fit.Given as goal

abbrev pub invariant-loop-i : goal.invariant-loop-i
invariant-loop-i l = l.fit ≡ slots_fit l.round l.known l.i
