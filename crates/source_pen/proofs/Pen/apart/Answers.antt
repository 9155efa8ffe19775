-- A space and the bytes, or the bytes alone, by whether the two bytes run together.
use Rattle.lib_base.proofs.Prelude.{◌∙◌, sym}
use Rattle.source_pen.proofs.Pens.{penned_on, penned_as}
use Rattle.source_pen.proofs.Signs.{apart_spaced, apart_joined}
use Rattle.source_pen.proofs.Pen.apart.Goals as goal
use Rattle.source_pen.proofs.Pen.apart.Goals.{then-runs_together, else-runs_together}

pub returns-clause-bytes : goal.returns-clause-bytes
returns-clause-bytes c = elim c.if-runs_together.branch [
  | then-runs_together w ↦ penned_as (penned_on w.byte.ensures (rw w.self-is at c.bytes.ensures)) (apart_spaced _ _ (sym c.runs_together.ensures ∙ w.if-runs_together.true))
  | else-runs_together w ↦ penned_as (rw w.self-is at c.bytes.ensures) (apart_joined _ _ (sym c.runs_together.ensures ∙ w.if-runs_together.false))
]
