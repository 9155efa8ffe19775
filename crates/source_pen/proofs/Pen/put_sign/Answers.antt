-- One gap a branch; at the start and where a space may stand the search finds it.
use Rattle.lib_base.proofs.Prelude.{sym}
use Rattle.source_pen.proofs.Pens.{penned_on, penned_as}
use Rattle.source_pen.proofs.Signs.{sign_lined, sign_on}
use Rattle.source_pen.proofs.Pen.put_sign.Goals as goal

pub returns-then-c-ge-PARAM-clause-bytes : goal.returns-then-c-ge-PARAM-clause-bytes
returns-then-c-ge-PARAM-clause-bytes c =
    penned_as (penned_on c.byte.ensures c.bytes-then-c-ge-PARAM.ensures)
    (rw c.spelling-text.ensures.bytes (sym (sign_lined _ _ c.if-self-eq0.false c.if-c-ge-PARAM.true)))

pub returns-then-c-eq-ON-clause-bytes : goal.returns-then-c-eq-ON-clause-bytes
returns-then-c-eq-ON-clause-bytes c =
    penned_as (penned_on c.bytes-then-c-eq-ON.ensures c.bytes-then-c-eq-ON-2.ensures)
    (rw c.spelling-text.ensures.bytes (sym (sign_on _ _ c.if-self-eq0.false c.if-c-eq-ON.true)))
