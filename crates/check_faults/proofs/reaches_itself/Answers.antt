use Rattle.lib_base.proofs.Prelude.{◌≡◌, refl, ◌∙◌, sym, false}
use Rattle.lib_bits.specs.Bits.{bit}
use Rattle.check_faults.specs.Checks.{left_round}
use Rattle.check_faults.proofs.reaches_itself.Goals as goal

pub returns-then-not-contains : goal.returns-then-not-contains
unfolding left_round
returns-then-not-contains c = let h : bit c.args.placed c.args.b ≡ false = sym c.contains.ensures ∙ c.if-not-contains.true in rw h c.contains-then-not-contains.ensures

pub returns-else-not-contains : goal.returns-else-not-contains
unfolding left_round
returns-else-not-contains c = rw (← c.contains.ensures, c.if-not-contains.false) refl
