-- Stage by stage: the value, who may see it, and the handlers.
use Rattle.std.proofs.lemmas.Result.{err_from_is_err_and}
use Rattle.source_names.specs.Known.{meaning_by}
use Rattle.source_body.proofs.State.{start_refused, seen_refused, state_read, state_within}
use Rattle.source_body.proofs.state_at.Goals as goal

pub returns-in_err-start-clause-state_declared : goal.returns-in_err-start-clause-state_declared
returns-in_err-start-clause-state_declared c =
    let a = c.args in
    let e = err_from_is_err_and c.from_residual.result c.from_residual.ensures.1 in
    let h = rw c.in_err-start.was at c.start_due.ensures.due_read in
    Prim.rw (e.1, e.2)
    (start_refused a.text.now (meaning_by a.text.now a.places.now a.cursor.sorted a.meanings.now) a.events.now a.cursor.cells a.cursor.at a.cursor.end a.out.now a.out.now _ h)

pub returns-in_err-seen-clause-state_declared : goal.returns-in_err-seen-clause-state_declared
returns-in_err-seen-clause-state_declared c =
    let a = c.args in
    let e = err_from_is_err_and c.from_residual-in_err-seen.result c.from_residual-in_err-seen.ensures.1 in
    let d = rw c.in_ok-start.was at c.start_due.ensures.due_read in
    let h = rw c.in_err-seen.was at c.seen_at.ensures.rights_read in
    Prim.rw (e.1, e.2)
    (seen_refused a.text.now (meaning_by a.text.now a.places.now a.cursor.sorted a.meanings.now) a.events.now a.cursor.cells a.cursor.at a.cursor.end a.out.now
    0 _ _ d a.out.now _ h)

pub returns : goal.returns
returns c =
    let a = c.args in
    let d = rw c.in_ok-start.was at c.start_due.ensures.due_read in
    let g = rw c.in_ok-start.was at c.start_due.ensures.start_within in
    let h = rw c.in_ok-seen.was at c.seen_at.ensures.rights_read in
    let i = rw c.in_ok-seen.was at c.seen_at.ensures.rights_within in
    record {
      state_declared =
          state_read a.text.now (meaning_by a.text.now a.places.now a.cursor.sorted a.meanings.now) a.events.now a.cursor.cells a.cursor.at a.cursor.end a.out.now
          0 _ _ d _ _ _ c.state_with.result h c.state_with.ensures.state_read;
      part_within = state_within _ _ _ _ _ c.state_with.result g.0 i.0 c.state_with.ensures.state_within;
      out_len_unchanged = c.state_with.ensures.out_len_unchanged;
    }
