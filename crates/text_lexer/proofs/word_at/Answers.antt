-- The bytes are those of the text from the place on; each return is one branch of `word_token`.
use Rattle.lib_base.proofs.Prelude.{◌∙◌}
use Rattle.text_lexer.proofs.Laws.{word_name, word_mark}
use Rattle.text_lexer.proofs.word_at.Goals as goal

pub returns-then-b-eq98 : goal.returns-then-b-eq98
returns-then-b-eq98 c =
    c.name_found.ensures
    ∙ word_name c.args.text.now c.args.at _ _ _ _ _ _ c.byte_at-b.ensures c.byte_at-c.ensures c.byte_at.ensures
    c.byte_at-then-b-eq98.ensures c.if-b-eq98.true

pub returns : goal.returns
returns c =
    c.marked_of.ensures
    ∙ word_mark c.args.text.now c.args.at _ _ _ _ c.byte_at-b.ensures c.byte_at-c.ensures c.if-b-eq98.false
