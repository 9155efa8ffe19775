-- A decimal digit is 48 or more; the answers are those of `digit_found`.
use Rattle.lib_base.proofs.Prelude.{◌∙◌, sym, arith}
use Rattle.text_marks.specs.Digits.{digit_found}
use Rattle.text_marks.proofs.Decimals.{decimal_bounds}
use Rattle.text_marks.proofs.digit_of.Goals as goal

pub overflow_sub-result : goal.overflow_sub-result
overflow_sub-result c = let h = decimal_bounds c.args.b (sym c.is_digit.ensures ∙ c.if-is_digit.true) in omega arith

pub returns-then-is_digit : goal.returns-then-is_digit
unfolding digit_found
returns-then-is_digit c = rw (sym c.is_digit.ensures ∙ c.if-is_digit.true)

pub returns : goal.returns
unfolding digit_found
returns c = rw (sym c.is_digit.ensures ∙ c.if-is_digit.false)
