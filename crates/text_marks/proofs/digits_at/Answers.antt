-- The loop takes digits as `decimal_value` does, the number as far as it counts.
use Rattle.lib_base.proofs.Prelude.{◌∙◌, sym, arith}
use Rattle.text_marks.proofs.Decimals.{digit_some, digit_none, digits_turn, digits_stop, digits_end}
use Rattle.text_marks.proofs.digits_at.Goals as goal

pub returns-in_default-clause-value_value : goal.returns-in_default-clause-value_value
returns-in_default-clause-value_value c =
    let e = digit_none _ (sym c.in_default.is ∙ c.digit_of.ensures) in
    (digits_stop _ _ c.loop-i.invariant c.loop-i-test.true e).0

pub returns-in_default-clause-end_value : goal.returns-in_default-clause-end_value
returns-in_default-clause-end_value c =
    let e = digit_none _ (sym c.in_default.is ∙ c.digit_of.ensures) in
    (digits_stop _ _ c.loop-i.invariant c.loop-i-test.true e).1.1

pub loop-i-preserved : goal.loop-i-preserved
loop-i-preserved c =
    let d = digit_some _ _ (sym c.in-Some.is ∙ c.digit_of.ensures) in
    digits_turn _ _ c.loop-i.invariant _ c.loop-i-test.true d.0 (rw d.1 at c.with_digit-n.ensures)

pub returns-clause-value_value : goal.returns-clause-value_value
returns-clause-value_value c = (digits_end _ _ c.loop-i.invariant c.loop-i-test.false).0

pub returns-clause-end_value : goal.returns-clause-end_value
returns-clause-end_value c =
    omega (arith, (digits_end _ _ c.loop-i.invariant c.loop-i-test.false).1.1, c.loop-i.invariant.inside, c.loop-i-test.false)
