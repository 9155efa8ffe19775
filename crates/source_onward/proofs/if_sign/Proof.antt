-- By the second byte, and then the third.
use Rattle.lib_base.proofs.Prelude.{◌∙◌, sym, ap, rules}
use Rattle.source_language.specs.Tokens.{in_word}
use Rattle.source_onward.proofs.If.{if_other, if_longer, if_stands}
use Rattle.source_onward.proofs.if_sign.Statement.{statement}
use Rattle.source_onward.proofs.if_sign.Tie as tie

pub if_sign_spec : {M : Type 1} → statement M
if_sign_spec =
    tie.close
    (tie.spec
    (λ c. search rules)
    (λ c κs. search rules)
    (λ c.
    let at_byte = c.before in
    let begun = at_byte.before.before.requires.1 in
    if_other _ _ begun.0 begun.1 (λ z. c.if-byte_at-ne102.true (at_byte.byte_at.ensures ∙ z)))
    (λ c. search rules)
    (λ c κs. search rules)
    (λ c κs. search rules)
    (λ c.
    let at_third = c.before.before in
    let begun = at_third.before.before.before.before.requires.1 in
    if_longer _ _ begun.0 begun.1 (ap in_word (sym at_third.byte_at-2.ensures) ∙ sym c.before.in_word.ensures ∙ c.if-in_word.true))
    (λ c.
    let at_third = c.before.before in
    let at_second = at_third.before.before in
    let begun = at_second.before.before.requires.1 in
    if_stands _ _ begun.0 begun.1 (sym at_second.byte_at.ensures ∙ at_third.before.if-byte_at-ne102.false)
    (ap in_word (sym at_third.byte_at-2.ensures) ∙ sym c.before.in_word.ensures ∙ c.if-in_word.false)))
