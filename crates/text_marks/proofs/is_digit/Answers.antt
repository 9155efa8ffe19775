-- The two tests of `is_decimal`.
use Rattle.lib_base.proofs.Prelude.{refl}
use Rattle.text_marks.specs.Digits.{is_decimal}
use Rattle.text_marks.proofs.is_digit.Goals as goal

pub returns : goal.returns
unfolding is_decimal
returns c = refl
