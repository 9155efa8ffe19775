-- The tests are those of `name_of`, by the digits that the bytes are.
use Rattle.lib_base.proofs.Prelude.{◌∙◌, sym, arith}
use Rattle.text_lexer.proofs.Laws.{digit_is, digit_off, digit_third, no_third, name_none, name_short, name_third, name_zero, name_high, name_long}
use Rattle.text_lexer.proofs.name_found.Goals as goal

pub returns-in_err-x : goal.returns-in_err-x
returns-in_err-x c = c.from_residual.ensures ∙ name_none _ _ _ _ _ (digit_off _ c.digit_of.ensures c.in_err-x.was)

pub returns-in_default : goal.returns-in_default
returns-in_default c =
    let x = digit_is _ _ c.digit_of.ensures c.in_ok-x.was in
    rw x.0 (name_short _ _ _ _ _ x.1 (digit_off _ c.digit_of-2.ensures c.in_default.is))

pub returns-then-is_some : goal.returns-then-is_some
returns-then-is_some c =
    let x = digit_is _ _ c.digit_of.ensures c.in_ok-x.was in
    let y = digit_is _ _ c.digit_of-2.ensures c.in-Some.is in
    rw (x.0, y.0) (name_third _ _ _ _ _ x.1 y.1 (digit_third _ _ c.digit_of-3.ensures (sym c.is_some.ensures ∙ c.if-is_some.true)))

pub returns-then-x-eq0 : goal.returns-then-x-eq0
returns-then-x-eq0 c =
    let x = digit_is _ _ c.digit_of.ensures c.in_ok-x.was in
    let y = digit_is _ _ c.digit_of-2.ensures c.in-Some.is in
    rw (x.0, y.0)
    (name_zero _ _ _ _ _ x.1 y.1 (no_third _ _ c.digit_of-3.ensures (sym c.is_some.ensures ∙ c.if-is_some.false)) c.if-x-eq0.true)

pub overflow_mul-i : goal.overflow_mul-i
overflow_mul-i c = let x = digit_is _ _ c.digit_of.ensures c.in_ok-x.was in omega arith

pub overflow_add-i : goal.overflow_add-i
overflow_add-i c =
    let x = digit_is _ _ c.digit_of.ensures c.in_ok-x.was in
    let y = digit_is _ _ c.digit_of-2.ensures c.in-Some.is in omega arith

pub returns-then-i-gt-LAST_NAME : goal.returns-then-i-gt-LAST_NAME
returns-then-i-gt-LAST_NAME c =
    let x = digit_is _ _ c.digit_of.ensures c.in_ok-x.was in
    let y = digit_is _ _ c.digit_of-2.ensures c.in-Some.is in
    rw (x.0, y.0)
    (name_high _ _ _ _ _ x.1 y.1 (no_third _ _ c.digit_of-3.ensures (sym c.is_some.ensures ∙ c.if-is_some.false)) c.if-x-eq0.false
    c.if-i-gt-LAST_NAME.true)

pub returns : goal.returns
returns c =
    let x = digit_is _ _ c.digit_of.ensures c.in_ok-x.was in
    let y = digit_is _ _ c.digit_of-2.ensures c.in-Some.is in
    rw (x.0, y.0)
    (name_long _ _ _ _ _ x.1 y.1 (no_third _ _ c.digit_of-3.ensures (sym c.is_some.ensures ∙ c.if-is_some.false)) c.if-x-eq0.false
    c.if-i-gt-LAST_NAME.false)
