-- Stage by stage: parameters, events, behaviours, and the end.
use Rattle.lib_base.proofs.Prelude.{arith}
use Rattle.std.proofs.lemmas.Result.{err_from_is_err_and}
use Rattle.source_names.specs.Known.{meaning_by}
use Rattle.source_behaviours.proofs.Whole.{parameters_few, parameters_fail, events_fail, behaviours_fail, end_fails, text_read}
use Rattle.source_behaviours.proofs.read_at.Goals as goal

pub returns-in_err-params-clause-text_read : goal.returns-in_err-params-clause-text_read
returns-in_err-params-clause-text_read c =
    let a = c.args in
    let find = meaning_by a.text.now a.places.now a.sorted a.meanings.now in
    let e = err_from_is_err_and c.from_residual.result c.from_residual.ensures.1 in
    let h = rw c.in_err-params.was at c.parameters_at.ensures.parameters_read in
    Prim.rw (e.1, e.2) (parameters_fail a.text.now find a.out.now a.out.now a.out.now a.out.now a.out.now _ h)

pub returns-in_err-known-clause-text_read : goal.returns-in_err-known-clause-text_read
returns-in_err-known-clause-text_read c =
    let a = c.args in
    let find = meaning_by a.text.now a.places.now a.sorted a.meanings.now in
    let e = err_from_is_err_and c.from_residual-in_err-known.result c.from_residual-in_err-known.ensures.1 in
    let g = rw c.in_ok-params.was at c.parameters_at.ensures.parameters_read in
    let h = rw c.in_err-known.was at c.events_at.ensures.events_read in
    Prim.rw (e.1, e.2) (events_fail a.text.now find a.out.now a.out.now a.out.now a.out.now _ _ _ _ g a.out.now a.out.now a.out.now _ h)

pub returns-in_err-all-clause-text_read : goal.returns-in_err-all-clause-text_read
returns-in_err-all-clause-text_read c =
    let a = c.args in
    let find = meaning_by a.text.now a.places.now a.sorted a.meanings.now in
    let e = err_from_is_err_and c.from_residual-in_err-all.result c.from_residual-in_err-all.ensures.1 in
    let g = rw c.in_ok-params.was at c.parameters_at.ensures.parameters_read in
    let h = rw c.in_ok-known.was at c.events_at.ensures.events_read in
    let k = rw c.in_err-all.was at c.behaviours_at.ensures.behaviours_read in
    let f = parameters_few a.text.now c.parameters_at.new.names _ _ _ _ g in
    Prim.rw (e.1, e.2) (behaviours_fail a.text.now find a.out.now a.out.now a.out.now a.out.now _ _ _ _ g _ _ _ _ _ h (omega (arith, c.parameters_at.ensures.names_len_2)) a.out.now a.out.now _ k)

pub returns-in-Some-clause-text_read : goal.returns-in-Some-clause-text_read
returns-in-Some-clause-text_read c =
    let a = c.args in
    let find = meaning_by a.text.now a.places.now a.sorted a.meanings.now in
    let g = rw c.in_ok-params.was at c.parameters_at.ensures.parameters_read in
    let h = rw c.in_ok-known.was at c.events_at.ensures.events_read in
    let k = rw c.in_ok-all.was at c.behaviours_at.ensures.behaviours_read in
    let f = parameters_few a.text.now c.parameters_at.new.names _ _ _ _ g in
    end_fails a.text.now find a.out.now _ _ _ _ _ _ _ g _ _ _ _ _ h (omega (arith, c.parameters_at.ensures.names_len_2)) _ _ _ _ k _ (rw c.in-Some.is at c.end_fault.ensures)

pub returns-clause-text_read : goal.returns-clause-text_read
returns-clause-text_read c =
    let a = c.args in
    let find = meaning_by a.text.now a.places.now a.sorted a.meanings.now in
    let b = c.behaviours_at.ensures in
    let g = rw c.in_ok-params.was at c.parameters_at.ensures.parameters_read in
    let h = rw c.in_ok-known.was at c.events_at.ensures.events_read in
    let k = rw c.in_ok-all.was at c.behaviours_at.ensures.behaviours_read in
    let m = rw c.in_ok-all.was at b.behaviours_within in
    let f = parameters_few a.text.now c.parameters_at.new.names _ _ _ _ g in
    text_read a.text.now find a.out.now _ _ _ _ _ _ _ g _ _ _ _ _ h (omega (arith, c.parameters_at.ensures.names_len_2)) _ _ _ _ k (rw c.in_default.is at c.end_fault.ensures) c.events_at.ensures.events_len.1
    b.names_len.0 b.names_len.1.0.0 b.names_len.1.0.1 m.3 m.4
