-- A digit begins a number, any other byte a word: the two branches of `first_of`.
use Rattle.lib_base.proofs.Prelude.{◌∙◌, sym}
use Rattle.text_lexer.proofs.Laws.{token_word, token_number_law}
use Rattle.text_lexer.proofs.token_at.Goals as goal

pub returns-then-is_digit-clause-scanned : goal.returns-then-is_digit-clause-scanned
returns-then-is_digit-clause-scanned c =
    (token_number_law _ c.args.at _ _ c.requires.text_len_bound (sym c.is_digit.ensures ∙ c.if-is_digit.true)
    c.digits_at-n.ensures.value_value c.digits_at-n.ensures.end_value).0

pub returns-then-is_digit-clause-narrow : goal.returns-then-is_digit-clause-narrow
returns-then-is_digit-clause-narrow c =
    (token_number_law _ c.args.at _ _ c.requires.text_len_bound (sym c.is_digit.ensures ∙ c.if-is_digit.true)
    c.digits_at-n.ensures.value_value c.digits_at-n.ensures.end_value).1

pub returns-clause-scanned : goal.returns-clause-scanned
returns-clause-scanned c = (token_word _ c.args.at _ (sym c.is_digit.ensures ∙ c.if-is_digit.false) c.word_at.ensures).0

pub returns-clause-narrow : goal.returns-clause-narrow
returns-clause-narrow c = (token_word _ c.args.at _ (sym c.is_digit.ensures ∙ c.if-is_digit.false) c.word_at.ensures).1
