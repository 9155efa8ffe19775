-- The field reader's answer is that of `field_of`, and `width_at` is its width.
use Rattle.lib_base.proofs.Prelude.{rules, arith}
use Rattle.link_events.proofs.Laws.{width_none, width_some, width_fits}
use Rattle.link_events.proofs.width.Statement.{statement}
use Rattle.link_events.proofs.width.Tie as tie

pub width_spec : {M : Type 1} → statement M
width_spec =
    tie.close
    (tie.spec
    (search rules)
    (search rules)
    (search rules)
    (λ c κs. search rules)
    (search rules)
    (search rules)
    (λ c.
    (width_none c.args.s.now c.args.i c.field_answer.ensures.0 c.in_default.is, omega arith))
    (λ c.
    omega (arith, width_fits c.args.s.now c.args.i c.requires c.field_answer.ensures.1 c.in-Ok.is))
    (λ c.
    let told = c.in-Ok.is in (
      width_some c.args.s.now c.args.i c.field_answer.ensures.0 told,
      width_fits c.args.s.now c.args.i c.requires c.field_answer.ensures.1 told,
    )))
