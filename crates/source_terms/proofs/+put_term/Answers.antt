-- None, a leaf, and an application of one, two or three arguments, as `term_tokens` has them.
use Rattle.source_terms.proofs.Writing.{wrote_none, wrote_on, wrote_as}
use Rattle.source_terms.proofs.Applied.{term_none, term_leaf, one_argument, two_arguments, three_arguments}
use Rattle.source_terms.proofs.+put_term.Goals as goal

pub returns-then-due-eq0 : goal.returns-then-due-eq0
returns-then-due-eq0 t c = wrote_as (wrote_none _ c.requires.at_le_pen_limit) (term_none _ _ _ _ _ c.if-due-eq0.true)

pub returns-then-byte_from-ne-APPLICATION : goal.returns-then-byte_from-ne-APPLICATION
returns-then-byte_from-ne-APPLICATION t c =
    wrote_as c.write_leaf.ensures (term_leaf _ _ _ _ _ c.if-due-eq0.false c.byte_from.ensures c.if-byte_from-ne-APPLICATION.true)

pub returns-then-f-eq-NOT : goal.returns-then-f-eq-NOT
returns-then-f-eq-NOT t c =
    wrote_as (wrote_on c.put_head.ensures c.put_term.ensures)
    (one_argument _ _ _ _ _ _ c.if-due-eq0.false c.byte_from.ensures c.if-byte_from-ne-APPLICATION.false c.byte_from-f.ensures
    c.onward-one.ensures.s_value c.first_level.ensures c.if-f-eq-NOT.true)

pub returns-then-f-ne-IF : goal.returns-then-f-ne-IF
returns-then-f-ne-IF t c =
    wrote_as
    (wrote_on c.put_head.ensures (wrote_on c.put_term.ensures (wrote_on c.put_between.ensures (wrote_on c.put_term-2.ensures c.put_unless.ensures))))
    (two_arguments _ _ _ _ _ _ c.if-due-eq0.false c.byte_from.ensures c.if-byte_from-ne-APPLICATION.false c.byte_from-f.ensures
    c.onward-one.ensures.s_value c.first_level.ensures c.second_level.ensures c.after_field-two.ensures.s_value
    c.if-f-eq-NOT.false c.if-f-ne-IF.true)

pub returns : goal.returns
returns t c =
    wrote_as
    (wrote_on c.put_head.ensures (wrote_on c.put_term.ensures (wrote_on c.put_between.ensures
    (wrote_on c.put_term-2.ensures (wrote_on c.write.ensures (wrote_on c.put_term-3.ensures c.write-2.ensures))))))
    (three_arguments _ _ _ _ _ _ c.if-due-eq0.false c.byte_from.ensures c.if-byte_from-ne-APPLICATION.false c.byte_from-f.ensures
    c.onward-one.ensures.s_value c.first_level.ensures c.second_level.ensures c.after_field-two.ensures.s_value
    c.after_field-three.ensures.s_value c.if-f-eq-NOT.false c.if-f-ne-IF.false)
