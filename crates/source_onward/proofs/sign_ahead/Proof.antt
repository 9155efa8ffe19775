-- A mark that is told by its byte; the end of the text, a word by its first byte, else the mark that stands there.
use Rattle.lib_base.proofs.Prelude.{◌∙◌, sym, rules, arith}
use Rattle.source_onward.proofs.Stands.{stands}
use Rattle.source_onward.proofs.After.{lone_behind, ahead_lone, ahead_end, ahead_word, ahead_sign}
use Rattle.source_onward.proofs.sign_ahead.Statement.{statement}
use Rattle.source_onward.proofs.sign_ahead.Tie as tie

pub sign_ahead_spec : {M : Type 1} → statement M
sign_ahead_spec =
    tie.close
    (tie.spec
    (λ c κs. search rules)
    (λ c κs. search rules)
    (λ c. search rules)
    (λ c κs.
    lone_behind c.args.text.now c.args.at _ _ c.byte_at.ensures c.lone_mark-lone.ensures c.if-lone-ne0.true)
    (λ c.
    ahead_lone _ _ _ _ c.byte_at.ensures c.lone_mark-lone.ensures c.if-lone-ne0.true _ c.pass_over.ensures)
    (λ c κs. search rules)
    (λ c. ahead_end _ _ _ c.pass_over-p.ensures c.requires.1 c.if-text-p.true)
    (λ c. search rules)
    (λ c κs. search rules)
    (λ c.
    ahead_word _ _ _ c.pass_over-p.ensures c.requires.1 (omega (arith, c.if-text-p.false)) (sym c.in_word.ensures ∙ c.if-in_word.true))
    (λ c κs.
    (c.pass_over-p.ensures.begun (omega (arith, c.if-text-p.false)), sym c.in_word.ensures ∙ c.if-in_word.false))
    (λ c κs. search rules)
    (λ c κs. (stands _ _ c.mark_at.result _ _ _ c.mark_at.ensures.0 c.mark_at.ensures.1 c.standing_of-standing.ensures).behind)
    (λ c.
    ahead_sign _ _ _ c.pass_over-p.ensures _ _ _ _
    (stands _ _ c.mark_at.result _ _ _ c.mark_at.ensures.0 c.mark_at.ensures.1 c.standing_of-standing.ensures) c.pass_over-2.ensures))
