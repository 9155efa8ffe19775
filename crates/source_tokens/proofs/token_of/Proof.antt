-- A digit begins a number, another byte of a word a word, any other a mark.
use Rattle.lib_base.proofs.Prelude.{◌∙◌, sym, rules}
use Rattle.source_tokens.proofs.Bytes.{digit_decimal}
use Rattle.source_tokens.proofs.Begun.{number_begins}
use Rattle.source_tokens.proofs.token_of.Statement.{statement}
use Rattle.source_tokens.proofs.token_of.Tie as tie

returns : tie.Need-returns-then-is_digit
returns c =
    let at_digit = c.before.before in
    let read = c.digits_at-n.ensures in
    number_begins _ _ at_digit.before.before.before.requires (sym (digit_decimal _) ∙ sym at_digit.is_digit.ensures ∙ c.before.if-is_digit.true)
    _ _ read.0 read.1.0 read.1.1

word_at_requires : tie.Need-word_at-requires
word_at_requires c κs =
    let at_digit = c.before.before.before in (
      at_digit.before.before.before.requires,
      (
        sym c.before.in_word.ensures ∙ c.if-in_word.true,
        sym (digit_decimal _) ∙ sym at_digit.is_digit.ensures ∙ c.before.before.if-is_digit.false,
      ),
    )

mark_at_requires : tie.Need-mark_at-requires
mark_at_requires c κs = (c.before.before.before.before.before.before.requires, sym c.before.in_word.ensures ∙ c.if-in_word.false)

pub token_of_spec : {M : Type 1} → statement M
token_of_spec =
    tie.close
    (tie.spec (λ c. search rules) (λ c κs. search rules) (λ c κs. search rules) returns (λ c κs. search rules)
    word_at_requires (λ c. search rules) mark_at_requires (λ c. search rules))
