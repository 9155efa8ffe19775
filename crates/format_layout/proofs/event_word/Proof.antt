-- `event_word` is `event_word`: each branch follows the definition's test; the word lies within the table as e < 32 and
-- k < 4.
use Rattle.lib_base.proofs.Pick.{code}
use Rattle.format_layout.specs.Layout.{event_word}
use borrow.Author.Rules.{rules}
use Rattle.format_layout.proofs.event_word.Statement.{statement}
use Rattle.format_layout.proofs.event_word.Tie as tie

pub event_word_spec : {M : Type 1} → statement M
unfolding event_word
event_word_spec =
    tie.close
    (tie.spec (λ c. search rules) (λ c. search rules) (λ c. search rules) (λ c κs. search rules) (λ c. search code depth 12) (λ c. search code depth 12))
