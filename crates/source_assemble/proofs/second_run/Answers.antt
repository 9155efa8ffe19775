-- A fault of the first pass is told; else what was read is right, since the names are.
use Rattle.std.proofs.lemmas.Result.{err_from_is_err_and}
use Rattle.lib_base.proofs.Prelude.{refl}
use Rattle.source_coding.specs.Places.{meaning_in}
use Rattle.source_assemble.proofs.Answers.{zeros_low, fault_found, read_right}
use Rattle.source_assemble.proofs.second_run.Goals as goal

pub read_with-requires-clause-room_to_read : goal.read_with-requires-clause-room_to_read
read_with-requires-clause-room_to_read c = (refl, ((refl, zeros_low 65), c.requires.out_len))

pub returns-in_err-reading : goal.returns-in_err-reading
returns-in_err-reading c =
    let a = c.args in
    let p = err_from_is_err_and c.from_residual.result c.from_residual.ensures.1 in
    Prim.rw (p.1, p.2)
    (fault_found a.text.now a.buffer.now c.requires.text_len_bound (meaning_in a.text.now a.names.now a.params a.firsts.now)
    a.text.now a.text.now a.text.now a.text.now _ (rw c.in_err-reading.was at c.read_with.ensures.text_read))

pub put_read-requires-clause-read_right : goal.put_read-requires-clause-read_right
put_read-requires-clause-read_right c =
    let a = c.args in
    read_right a.text.now a.buffer.now c.requires.text_len_bound (meaning_in a.text.now a.names.now a.params a.firsts.now) _ _ _ _ _ _ _ _
    c.requires.out_len c.requires.names_resolved (rw c.in_ok-reading.was at c.read_with.ensures.text_read)
