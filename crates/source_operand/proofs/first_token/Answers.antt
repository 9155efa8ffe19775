-- A byte of a word with none behind it is the token.
use Rattle.lib_base.proofs.Prelude.{◌∙◌, sym, ap, arith}
use Rattle.source_language.specs.Tokens.{in_word}
use Rattle.source_operand.proofs.Short.{word_low, short_number, short_name}
use Rattle.source_operand.proofs.first_token.Goals as goal

pub overflow_sub-result : goal.overflow_sub-result
overflow_sub-result c = word_low _ (sym c.in_word.ensures ∙ c.if-not-in_word.false)

pub returns-then-b-le57-clause-token_at : goal.returns-then-b-le57-clause-token_at
returns-then-b-le57-clause-token_at c =
    let is = c.byte_at-b.ensures in
    (short_number _ _ (ap in_word (sym is) ∙ sym c.in_word.ensures ∙ c.if-not-in_word.false)
    (ap in_word (sym c.byte_at.ensures) ∙ sym c.in_word-2.ensures ∙ c.if-in_word.false) _ is c.if-b-le57.true).0

pub returns-clause-token_at : goal.returns-clause-token_at
returns-clause-token_at c =
    let is = c.byte_at-b.ensures in
    (short_name _ _ (ap in_word (sym is) ∙ sym c.in_word.ensures ∙ c.if-not-in_word.false)
    (ap in_word (sym c.byte_at.ensures) ∙ sym c.in_word-2.ensures ∙ c.if-in_word.false) (omega (arith, is, c.if-b-le57.false))).0
