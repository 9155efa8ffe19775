-- Another first byte is neither of the two.
use Rattle.lib_base.proofs.Prelude.{◌∙◌, sym, rules, arith}
use Rattle.source_onward.proofs.Stands.{above_begins}
use Rattle.source_onward.proofs.After.{before_other, not_begun}
use Rattle.source_onward.proofs.sign_before.Statement.{statement}
use Rattle.source_onward.proofs.sign_before.Tie as tie

pub sign_before_spec : {M : Type 1} → statement M
sign_before_spec =
    tie.close
    (tie.spec
    (λ c κs. search rules)
    (λ c κs.
    let e = sym c.byte_at-b.ensures ∙ c.if-b-eq33.true in
    (c.requires.0, (not_begun _ _ c.requires.1 e, e)))
    (λ c. c.not_before.ensures)
    (λ c.
    before_other _ _ c.requires.1 (λ z. c.if-b-eq33.false (c.byte_at-b.ensures ∙ z)) (λ z. c.if-b-ne105.true (c.byte_at-b.ensures ∙ z)))
    (λ c κs.
    let e = sym c.byte_at-b.ensures ∙ c.if-b-ne105.false in
    (c.requires.0, (above_begins _ _ (omega arith), e)))
    (λ c. search rules)
    (λ c. c.if_sign.ensures))
