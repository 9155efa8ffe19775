-- Stage by stage: `=`, the formula, who may see it, and the head in front.
use Rattle.std.proofs.lemmas.Result.{err_from_is_err_and}
use Rattle.source_names.specs.Known.{meaning_by}
use Rattle.source_body.proofs.State.{passive_unsigned, passive_formula, passive_unseen, passive_done}
use Rattle.source_body.proofs.passive_at.Goals as goal

pub returns-in_err-equals-clause-passive_read : goal.returns-in_err-equals-clause-passive_read
returns-in_err-equals-clause-passive_read c =
    let a = c.args in
    let e = err_from_is_err_and c.from_residual.result c.from_residual.ensures.1 in
    let h = rw c.in_err-equals.was at c.sign_due.ensures.sign_told in
    Prim.rw (e.1, e.2) (passive_unsigned a.text.now (meaning_by a.text.now a.places.now a.cursor.sorted a.meanings.now) a.cursor.at a.cursor.end a.out.now a.out.now _ h)

pub returns-in_err-formula-clause-passive_read : goal.returns-in_err-formula-clause-passive_read
returns-in_err-formula-clause-passive_read c =
    let a = c.args in
    let e = err_from_is_err_and c.from_residual-in_err-formula.result c.from_residual-in_err-formula.ensures.1 in
    let h = rw c.in_ok-equals.was at c.sign_due.ensures.sign_told in
    let f = rw c.in_err-formula.was at c.formula_at.ensures.formula_read in
    Prim.rw (e.1, e.2)
    (passive_formula a.text.now (meaning_by a.text.now a.places.now a.cursor.sorted a.meanings.now) a.cursor.at a.cursor.end a.out.now _ _ h a.out.now a.out.now a.out.now 0 _ f)

pub returns-in_err-seen-clause-passive_read : goal.returns-in_err-seen-clause-passive_read
returns-in_err-seen-clause-passive_read c =
    let a = c.args in
    let e = err_from_is_err_and c.from_residual-in_err-seen.result c.from_residual-in_err-seen.ensures.1 in
    let h = rw c.in_ok-equals.was at c.sign_due.ensures.sign_told in
    let f = rw c.in_ok-formula.was at c.formula_at.ensures.formula_read in
    let g = rw c.in_err-seen.was at c.seen_at.ensures.rights_read in
    Prim.rw (e.1, e.2)
    (passive_unseen a.text.now (meaning_by a.text.now a.places.now a.cursor.sorted a.meanings.now) a.cursor.at a.cursor.end a.out.now _ _ h _ _ _ _ _ f a.out.now _ g)

pub returns-clause-passive_read : goal.returns-clause-passive_read
returns-clause-passive_read c =
    let a = c.args in
    let d = rw c.in_ok-equals.was at c.sign_due.ensures.sign_told in
    let f = rw c.in_ok-formula.was at c.formula_at.ensures.formula_read in
    let h = rw c.in_ok-seen.was at c.seen_at.ensures.rights_read in
    rw (c.enclose.ensures, c.put_viewers-stop.ensures.out_after)
    (passive_done a.text.now (meaning_by a.text.now a.places.now a.cursor.sorted a.meanings.now) a.cursor.at a.cursor.end a.out.now _ _ d _ _ _ _ _ f _ _ _ h
    c.formula_at.ensures.out_len_unchanged c.requires.out_len_bound c.put_viewers-stop.ensures.value)
