-- `!` alone where no `=` follows, else the mark that stands there.
use Rattle.lib_base.proofs.Prelude.{◌∙◌, rules, arith}
use Rattle.source_onward.proofs.Stands.{stands}
use Rattle.source_onward.proofs.After.{before_not, before_sign, not_in_word}
use Rattle.source_onward.proofs.not_before.Statement.{statement}
use Rattle.source_onward.proofs.not_before.Tie as tie

pub not_before_spec : {M : Type 1} → statement M
not_before_spec =
    tie.close
    (tie.spec
    (λ c. omega (arith, c.requires.0, c.requires.1.0.inside))
    (λ c κs. search rules)
    (λ c. omega (arith, c.requires.0, c.requires.1.0.inside))
    (λ c.
    before_not _ _ c.requires.1.0 c.requires.1.1 (λ z. c.if-byte_at-ne61.true (c.byte_at.ensures ∙ z)))
    (λ c κs. (c.requires.1.0, not_in_word c.args.text.now c.args.at c.requires.1.1))
    (λ c κs. search rules)
    (λ c. before_sign _ _ _ _ _ (stands _ _ c.mark_at.result _ _ _ c.mark_at.ensures.0 c.mark_at.ensures.1 c.standing_of.ensures)))
