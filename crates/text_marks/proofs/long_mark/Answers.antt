-- Each known pair is a row of `formula_marks`; for another the second byte differs, or no row of two bytes begins so.
use Rattle.lib_base.proofs.Prelude.{ne_eqb}
use Rattle.text_marks.specs.Marks.{spelled_alike, number_of, formula_marks}
use Rattle.text_marks.proofs.Rows.{kept_rows, long_none}
use Rattle.text_marks.proofs.long_mark.Goals as goal

pub returns-in-62-eq61 : goal.returns-in-62-eq61
unfolding formula_marks spelled_alike number_of
returns-in-62-eq61 c = rw (c.in-62-eq61.is-0, c.in-62-eq61.is-1)

pub returns-in-60-eq61 : goal.returns-in-60-eq61
unfolding formula_marks spelled_alike number_of
returns-in-60-eq61 c = rw (c.in-60-eq61.is-0, c.in-60-eq61.is-1)

pub returns-in-61-eq61 : goal.returns-in-61-eq61
unfolding formula_marks spelled_alike number_of
returns-in-61-eq61 c = rw (c.in-61-eq61.is-0, c.in-61-eq61.is-1)

pub returns-in-33-eq61 : goal.returns-in-33-eq61
unfolding formula_marks spelled_alike number_of
returns-in-33-eq61 c = rw (c.in-33-eq61.is-0, c.in-33-eq61.is-1)

pub returns-in-124-eq124 : goal.returns-in-124-eq124
unfolding formula_marks spelled_alike number_of
returns-in-124-eq124 c = rw (c.in-124-eq124.is-0, c.in-124-eq124.is-1)

pub returns-in-38-eq38 : goal.returns-in-38-eq38
unfolding formula_marks spelled_alike number_of
returns-in-38-eq38 c = rw (c.in-38-eq38.is-0, c.in-38-eq38.is-1)

pub returns-in_default : goal.returns-in_default
unfolding formula_marks spelled_alike number_of
returns-in_default c = rw (c.in_default.is-0, ne_eqb _ 61 c.in_default.is-1.1)

pub returns-in_default-2 : goal.returns-in_default-2
unfolding formula_marks spelled_alike number_of
returns-in_default-2 c = rw (c.in_default.is-0, ne_eqb _ 61 c.in_default.is-1.1)

pub returns-in_default-3 : goal.returns-in_default-3
unfolding formula_marks spelled_alike number_of
returns-in_default-3 c = rw (c.in_default.is-0, ne_eqb _ 61 c.in_default.is-1.1)

pub returns-in_default-4 : goal.returns-in_default-4
unfolding formula_marks spelled_alike number_of
returns-in_default-4 c = rw (c.in_default.is-0, ne_eqb _ 61 c.in_default.is-1.1)

pub returns-in_default-5 : goal.returns-in_default-5
unfolding formula_marks spelled_alike number_of
returns-in_default-5 c = rw (c.in_default.is-0, ne_eqb _ 124 c.in_default.is-1.1)

pub returns-in_default-6 : goal.returns-in_default-6
unfolding formula_marks spelled_alike number_of
returns-in_default-6 c = rw (c.in_default.is-0, ne_eqb _ 38 c.in_default.is-1.1)

pub returns-in_default-7 : goal.returns-in_default-7
unfolding kept_rows formula_marks
returns-in_default-7 c =
    let h = c.in_default.is-0 in
    let first = h.0.0.0 in
    rw (long_none c.args.b c.args.c (h.0.1, (h.1, (first.0.0.1, (first.0.1, (first.1, (h.0.0.1, tt)))))))
