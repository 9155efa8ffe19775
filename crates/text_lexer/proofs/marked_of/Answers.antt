-- The branches are those of `marked_of`, by the tables of marks.
use Rattle.lib_base.proofs.Prelude.{◌∙◌}
use Rattle.text_lexer.proofs.Marked.{marked_long, marked_if, marked_none, marked_short}
use Rattle.text_lexer.proofs.marked_of.Goals as goal

pub returns-in-Some : goal.returns-in-Some
returns-in-Some c = rw c.mark_token.ensures (marked_long _ _ c.long_mark.ensures c.in-Some.is)

pub returns-then-c-eq102 : goal.returns-then-c-eq102
returns-then-c-eq102 c = marked_if _ _ c.long_mark.ensures c.in_default.is c.if-b-eq105.true c.if-c-eq102.true

pub returns-in_err-short : goal.returns-in_err-short
returns-in_err-short c =
    c.from_residual.ensures
    ∙ marked_none _ _ c.long_mark.ensures c.in_default.is c.else-b-eq105.either c.short_mark.ensures c.in_err-short.was

pub returns : goal.returns
returns c =
    rw c.mark_token-2.ensures
    (marked_short _ _ c.long_mark.ensures c.in_default.is c.else-b-eq105.either c.short_mark.ensures c.in_ok-short.was)
