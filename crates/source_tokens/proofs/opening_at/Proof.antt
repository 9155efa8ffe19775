-- By the byte behind the blanks and comments.
use Rattle.lib_base.proofs.Prelude.{◌∙◌, sym, rules}
use Rattle.source_tokens.proofs.Opened.{bracket_opens, bracket_none}
use Rattle.source_tokens.proofs.opening_at.Statement.{statement}
use Rattle.source_tokens.proofs.opening_at.Tie as tie

returns : tie.Need-returns-then-byte_at-eq40
returns c =
    let at_byte = c.before in
    bracket_opens _ _ _ at_byte.before.pass_over-p.ensures (sym at_byte.byte_at.ensures ∙ c.if-byte_at-eq40.true)

returns_2 : tie.Need-returns
returns_2 c =
    let at_byte = c.before in
    bracket_none _ _ _ at_byte.before.pass_over-p.ensures (λ z. c.if-byte_at-eq40.false (at_byte.byte_at.ensures ∙ z))

pub opening_at_spec : {M : Type 1} → statement M
opening_at_spec = tie.close (tie.spec (λ c κs. search rules) (λ c κs. search rules) (λ c. search rules) returns returns_2)
