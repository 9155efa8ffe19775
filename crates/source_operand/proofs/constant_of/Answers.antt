-- A constant that is due, and its bytes.
use Rattle.std.proofs.lemmas.Result.{err_from_is_err_and}
use Rattle.source_operand.proofs.Leaves.{constant_misread, constant_read}
use Rattle.source_operand.proofs.constant_of.Goals as goal

pub returns-in_err-constant-clause-by_index : goal.returns-in_err-constant-clause-by_index
returns-in_err-constant-clause-by_index c =
    let e = err_from_is_err_and c.from_residual.result c.from_residual.ensures.1 in
    Prim.rw (e.1, e.2) (constant_misread _ _ c.args.n _ c.args.out.now _ c.value_of.ensures.value_told c.in_err-constant.was).0

pub returns-clause-by_index : goal.returns-clause-by_index
returns-clause-by_index c =
    (constant_read _ _ _ _ _ _ _ _ _ c.value_of.ensures.value_told c.in_ok-constant.was c.value_of.ensures.due_within c.put_word_field.ensures).0

pub returns-clause-fewer_left : goal.returns-clause-fewer_left
returns-clause-fewer_left c =
    let read = constant_read _ _ c.args.n _ _ _ _ _ _ c.value_of.ensures.value_told c.in_ok-constant.was c.value_of.ensures.due_within c.put_word_field.ensures in
    (read.1.1, c.put_word_field.auto.out)
