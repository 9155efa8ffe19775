-- Stage by stage: its name, its count, and what it is.
use Rattle.lib_base.proofs.Prelude.{refl, arith}
use Rattle.std.proofs.lemmas.Result.{err_from_is_err_and}
use Rattle.source_names.specs.Known.{meaning_by}
use Rattle.source_behaviours.proofs.Declared.{behaviour_over, behaviour_unnamed, behaviour_uncounted, behaviour_refused, behaviour_done, numbers_within}
use Rattle.source_behaviours.proofs.behaviour_at.Goals as goal

pub returns-then-heading-ge-BEHAVIOURS-clause-behaviour_read : goal.returns-then-heading-ge-BEHAVIOURS-clause-behaviour_read
returns-then-heading-ge-BEHAVIOURS-clause-behaviour_read c =
    let a = c.args in
    let q = a.heading in
    let find = meaning_by a.text.now a.places.now q.sorted a.meanings.now in
    behaviour_over a.text.now find a.events.now a.names.now q.count q.cells q.place q.word q.at q.end a.out.now a.out.now _ c.if-heading-ge-BEHAVIOURS.true refl

pub returns-in_err-name-clause-behaviour_read : goal.returns-in_err-name-clause-behaviour_read
returns-in_err-name-clause-behaviour_read c =
    let a = c.args in
    let q = a.heading in
    let find = meaning_by a.text.now a.places.now q.sorted a.meanings.now in
    let e = err_from_is_err_and c.from_residual.result c.from_residual.ensures.1 in
    let h = rw c.in_err-name.was at c.name_at.ensures.due_read in
    Prim.rw (e.1, e.2) (behaviour_unnamed a.text.now find a.events.now a.names.now q.count q.cells q.place q.word q.at q.end a.out.now a.out.now (omega (arith, c.if-heading-ge-BEHAVIOURS.false)) _ h)

pub returns-in_err-counted-clause-behaviour_read : goal.returns-in_err-counted-clause-behaviour_read
returns-in_err-counted-clause-behaviour_read c =
    let a = c.args in
    let q = a.heading in
    let find = meaning_by a.text.now a.places.now q.sorted a.meanings.now in
    let e = err_from_is_err_and c.from_residual-in_err-counted.result c.from_residual-in_err-counted.ensures.1 in
    let g = rw c.in_ok-name.was at c.name_at.ensures.due_read in
    let h = rw c.in_err-counted.was at c.cells_due.ensures.due_read in
    Prim.rw (e.1, e.2) (behaviour_uncounted a.text.now find a.events.now a.names.now q.count q.cells q.place q.word q.at q.end a.out.now a.out.now (omega (arith, c.if-heading-ge-BEHAVIOURS.false)) _ 0 _ g _ h)

pub returns-in_err-part-clause-behaviour_read : goal.returns-in_err-part-clause-behaviour_read
returns-in_err-part-clause-behaviour_read c =
    let a = c.args in
    let q = a.heading in
    let find = meaning_by a.text.now a.places.now q.sorted a.meanings.now in
    let e = err_from_is_err_and c.from_residual-in_err-part.result c.from_residual-in_err-part.ensures.1 in
    let g = rw c.in_ok-name.was at c.name_at.ensures.due_read in
    let h = rw c.in_ok-counted.was at c.cells_due.ensures.due_read in
    let k = rw c.in_err-part.was at c.kind_at.ensures.kind_read in
    Prim.rw (e.1, e.2) (behaviour_refused a.text.now find a.events.now a.names.now q.count q.cells q.place q.word q.at q.end a.out.now a.out.now (omega (arith, c.if-heading-ge-BEHAVIOURS.false)) _ 0 _ g 0 _ _ h _ k)

pub returns-clause-behaviour_read : goal.returns-clause-behaviour_read
returns-clause-behaviour_read c =
    let a = c.args in
    let q = a.heading in
    let find = meaning_by a.text.now a.places.now q.sorted a.meanings.now in
    let g = rw c.in_ok-name.was at c.name_at.ensures.due_read in
    let h = rw c.in_ok-counted.was at c.cells_due.ensures.due_read in
    let k = rw c.in_ok-part.was at c.kind_at.ensures.kind_read in
    rw c.numbers_of.ensures (behaviour_done a.text.now find a.events.now a.names.now q.count q.cells q.place q.word q.at q.end a.out.now _ (omega (arith, c.if-heading-ge-BEHAVIOURS.false)) _ 0 _ g 0 _ _ h _ _ _ k)

pub returns-clause-behaviour_within : goal.returns-clause-behaviour_within
returns-clause-behaviour_within c =
    let a = c.args in
    let q = a.heading in
    let f = rw c.in_ok-name.was at c.name_at.ensures.due_within in
    let j = rw c.in_ok-counted.was at c.cells_due.ensures.cells_within in
    let m = rw c.in_ok-part.was at c.kind_at.ensures.part_within in
    let b = numbers_within q.cells _ (omega (arith, c.if-heading-ge-BEHAVIOURS.false)) j.3 in
    rw c.numbers_of.ensures (omega arith)
