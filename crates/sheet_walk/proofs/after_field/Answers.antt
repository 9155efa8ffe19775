-- By the field reader's answer: where it refuses, nothing stands behind (`after_refused`); else the place behind its
-- value (`after_value`).
use Rattle.lib_base.proofs.Prelude.{arith}
use Rattle.sheet_walk.proofs.Places.{after_refused, after_value}
use Rattle.sheet_walk.proofs.after_field.Goals as goal

pub returns-in_default-clause-s_value : goal.returns-in_default-clause-s_value
returns-in_default-clause-s_value c =
    after_refused c.args.s.now c.args.at c.requires (omega (arith, c.type_inv.s c.args.at)) c.field_answer.ensures.value c.in_default.is

pub returns-clause-s_value : goal.returns-clause-s_value
returns-clause-s_value c =
    after_value c.args.s.now c.args.at c.requires (omega (arith, c.type_inv.s c.args.at)) c.field_answer.ensures.value c.in-Ok.is
