-- What is passed over changes no token, so the token behind it is the first from the place on.
use borrow.Author.Rules.{rules}
use Rattle.source_tokens.proofs.Begun.{moved_at, moved_within, moved_end}
use Rattle.source_tokens.proofs.token_at.Statement.{statement}
use Rattle.source_tokens.proofs.token_at.Tie as tie

token_of_requires : tie.Need-token_of-requires
token_of_requires c κs = c.before.pass_over-p.ensures.begun c.if-p-text.true

returns : tie.Need-returns-then-p-text
returns c =
    let passed = c.before.before.pass_over-p.ensures in (
      moved_at _ _ _ c.token_of.result passed c.token_of.ensures.0,
      moved_within _ _ _ c.token_of.result passed c.token_of.ensures.1,
    )

returns_2 : tie.Need-returns
returns_2 c = moved_end _ _ _ c.before.pass_over-p.ensures c.if-p-text.false

pub token_at_spec : {M : Type 1} → statement M
token_at_spec = tie.close (tie.spec (λ c κs. search rules) token_of_requires returns returns_2)
