-- By the first byte: of a word, one that `=` lengthens, one that is doubled, or another.
use Rattle.lib_base.proofs.Prelude.{◌∙◌, sym}
use Rattle.source_pen.proofs.Bytes.{words_together, equals_together, doubled_together, others_apart}
use Rattle.source_pen.proofs.runs_together.Goals as goal

pub returns-then-in_word : goal.returns-then-in_word
returns-then-in_word c = c.in_word-then-in_word.ensures ∙ words_together _ _ (sym c.in_word.ensures ∙ c.if-in_word.true)

pub returns-then-takes_equals : goal.returns-then-takes_equals
returns-then-takes_equals c = equals_together _ _ (sym c.takes_equals.ensures ∙ c.if-takes_equals.true)

pub returns-then-a-eq124 : goal.returns-then-a-eq124
returns-then-a-eq124 c = doubled_together _ _ c.then-a-eq124.either

pub returns : goal.returns
returns c =
    others_apart _ _ (sym c.in_word.ensures ∙ c.if-in_word.false) (sym c.takes_equals.ensures ∙ c.if-takes_equals.false)
    c.if-a-eq124.false c.if-a-eq38.false
