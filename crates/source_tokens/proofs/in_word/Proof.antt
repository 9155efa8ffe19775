-- The two kinds of `in_word`.
use borrow.Author.Rules.{rules}
use Rattle.source_language.specs.Tokens.{in_word}
use Rattle.source_tokens.proofs.Bytes.{digit_decimal}
use Rattle.source_tokens.proofs.in_word.Statement.{statement}
use Rattle.source_tokens.proofs.in_word.Tie as tie

returns : tie.Need-returns
unfolding in_word
returns c = rw (c.before.is_letter.ensures, c.is_digit.ensures, digit_decimal _)

pub in_word_spec : {M : Type 1} → statement M
in_word_spec = tie.close (tie.spec (λ c κs. search rules) (λ c κs. search rules) returns)
