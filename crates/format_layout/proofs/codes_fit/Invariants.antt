-- The codes from event i on fit, so that those before it decide.
use Rattle.lib_base.proofs.Prelude.{◌≡◌}
use Rattle.format_layout.specs.Foreign.{codes_fit}
use Rattle.format_layout.proofs.codes_fit.Given as goal

abbrev pub invariant-loop-i : goal.invariant-loop-i
invariant-loop-i l = codes_fit l.table l.n ≡ codes_fit l.table l.i
