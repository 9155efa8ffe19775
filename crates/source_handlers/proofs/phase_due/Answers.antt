-- With `later` and without it, by the colon behind.
use Rattle.source_handlers.proofs.Events.{phase_now, phase_later}
use Rattle.source_handlers.proofs.phase_due.Goals as goal

pub returns-in_default-clause-due_read : goal.returns-in_default-clause-due_read
returns-in_default-clause-due_read c =
    let h = rw c.in_default.is at c.sign_due.ensures.sign_told in
    phase_now _ _ _ c.colon_due.result h c.colon_due.ensures.colon_read

pub returns-clause-due_read : goal.returns-clause-due_read
returns-clause-due_read c =
    let h = rw c.in-Ok.is at c.sign_due.ensures.sign_told in
    phase_later _ _ _ _ c.colon_due-2.result h c.colon_due-2.ensures.colon_read
