-- The tests of `is_letter`.
use mathlib.Core.Path.{refl}
use Rattle.source_language.specs.Tokens.{is_letter}
use Rattle.source_tokens.proofs.is_letter.Statement.{statement}
use Rattle.source_tokens.proofs.is_letter.Tie as tie

returns : tie.Need-returns
unfolding is_letter
returns c = refl

pub is_letter_spec : {M : Type 1} → statement M
is_letter_spec = tie.close (tie.spec returns)
