-- `code_fits` is `code_fits`: each branch follows the definition's test.
use Rattle.lib_base.proofs.Pick.{code}
use Rattle.format_layout.specs.Foreign.{code_fits}
use Rattle.format_layout.proofs.code_fits.Statement.{statement}
use Rattle.format_layout.proofs.code_fits.Tie as tie

pub code_fits_spec : {M : Type 1} → statement M
unfolding code_fits
code_fits_spec = tie.close (tie.spec (λ c. search code depth 12) (λ c. search code depth 12))
