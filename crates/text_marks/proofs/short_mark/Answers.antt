-- Each known byte is a row of `formula_marks`; another begins none of one byte.
use Rattle.text_marks.specs.Marks.{spelled_alike, number_of, formula_marks}
use Rattle.text_marks.proofs.Rows.{kept_rows, short_none}
use Rattle.text_marks.proofs.short_mark.Goals as goal

pub returns-in-33 : goal.returns-in-33
unfolding formula_marks spelled_alike number_of
returns-in-33 c = rw c.in-33.is

pub returns-in-43 : goal.returns-in-43
unfolding formula_marks spelled_alike number_of
returns-in-43 c = rw c.in-43.is

pub returns-in-45 : goal.returns-in-45
unfolding formula_marks spelled_alike number_of
returns-in-45 c = rw c.in-45.is

pub returns-in-42 : goal.returns-in-42
unfolding formula_marks spelled_alike number_of
returns-in-42 c = rw c.in-42.is

pub returns-in-47 : goal.returns-in-47
unfolding formula_marks spelled_alike number_of
returns-in-47 c = rw c.in-47.is

pub returns-in-62 : goal.returns-in-62
unfolding formula_marks spelled_alike number_of
returns-in-62 c = rw c.in-62.is

pub returns-in-60 : goal.returns-in-60
unfolding formula_marks spelled_alike number_of
returns-in-60 c = rw c.in-60.is

pub returns-in-40 : goal.returns-in-40
unfolding formula_marks spelled_alike number_of
returns-in-40 c = rw c.in-40.is

pub returns-in-41 : goal.returns-in-41
unfolding formula_marks spelled_alike number_of
returns-in-41 c = rw c.in-41.is

pub returns-in-44 : goal.returns-in-44
unfolding formula_marks spelled_alike number_of
returns-in-44 c = rw c.in-44.is

pub returns-in_default : goal.returns-in_default
unfolding kept_rows formula_marks
returns-in_default c =
    let upto10 = c.in_default.in_default-own.rest in
    let upto7 = upto10.0.0.0 in
    let upto4 = upto7.0.0.0 in
    rw
    (short_none _
    (upto4.0.0.0.1, (upto4.0.0.1, (upto4.0.1, (upto4.1, (upto7.0.0.1, (upto7.0.1, (upto7.1, (upto10.0.0.1, (upto10.0.1, (upto10.1, tt)))))))))))
