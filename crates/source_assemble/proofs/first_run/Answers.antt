-- A fault of the first pass is told; names that the text declares are right ones, and with others it is read again.
use Rattle.std.proofs.lemmas.Result.{err_from_is_err_and}
use Rattle.lib_base.proofs.Prelude.{refl, sym, length-take-le, arith}
use Rattle.source_coding.specs.Places.{meaning_in}
use Rattle.source_assemble.proofs.Answers.{zeros_low, names_left, fault_found, read_right, right_names}
use Rattle.source_assemble.proofs.first_run.Goals as goal

pub read_with-requires-clause-room_to_read : goal.read_with-requires-clause-room_to_read
read_with-requires-clause-room_to_read c = (refl, ((refl, zeros_low 65), refl))

pub returns-in_err-reading : goal.returns-in_err-reading
returns-in_err-reading c =
    let a = c.args in
    let p = err_from_is_err_and c.from_residual.result c.from_residual.ensures.1 in
    Prim.rw (p.1, p.2)
    (fault_found a.text.now a.buffer.now c.requires.text_len_bound (meaning_in a.text.now a.names.now a.params a.firsts.now)
    a.text.now a.text.now a.text.now a.text.now _ (rw c.in_err-reading.was at c.read_with.ensures.text_read))

pub slice_bounds-found-end : goal.slice_bounds-found-end
slice_bounds-found-end c =
    let left = names_left c.args.text.now _ _ _ _ _ _ _ _ _ (rw c.in_ok-reading.was at c.read_with.ensures.text_read) in
    sym (length-take-le _ _ (omega (arith, left.counted, c.read_with.ensures.declared_len.0)))

pub put_read-requires-clause-read_right : goal.put_read-requires-clause-read_right
put_read-requires-clause-read_right c =
    let a = c.args in
    let left = names_left a.text.now _ _ _ _ _ _ _ _ _ (rw c.in_ok-reading.was at c.read_with.ensures.text_read) in
    let known = right_names a.text.now a.names.now a.params a.firsts.now _ _ _ (c.is_right.ensures c.if-is_right.true) left.known in
    read_right a.text.now a.buffer.now c.requires.text_len_bound (meaning_in a.text.now a.names.now a.params a.firsts.now) _ _ _ _ _ _ _ _ refl known
    (rw c.in_ok-reading.was at c.read_with.ensures.text_read)

pub second_run-requires-clause-names_usable : goal.second_run-requires-clause-names_usable
second_run-requires-clause-names_usable c =
    let left = names_left c.args.text.now _ _ _ _ _ _ _ _ _ (rw c.in_ok-reading.was at c.read_with.ensures.text_read) in
    left.usable

pub second_run-requires-clause-names_resolved : goal.second_run-requires-clause-names_resolved
second_run-requires-clause-names_resolved c =
    let left = names_left c.args.text.now _ _ _ _ _ _ _ _ _ (rw c.in_ok-reading.was at c.read_with.ensures.text_read) in
    left.known
