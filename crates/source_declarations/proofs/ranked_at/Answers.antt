-- By what is read one after the other: the word, the rank, and who may send.
use Rattle.lib_base.proofs.Prelude.{refl}
use Rattle.std.proofs.lemmas.Result.{err_from_is_err_and}
use Rattle.source_declarations.proofs.Events.{ranked_unsaid, ranked_unnumbered, ranked_off, ranked_broken, ranked_sent}
use Rattle.source_declarations.proofs.ranked_at.Goals as goal

pub returns-in_err-word-clause-text_event_read : goal.returns-in_err-word-clause-text_event_read
returns-in_err-word-clause-text_event_read c =
    let e = err_from_is_err_and c.from_residual.result c.from_residual.ensures.1 in
    Prim.rw (e.1, e.2) (ranked_unsaid _ _ _ _ _ c.sign_due.ensures.sign_told c.in_err-word.was)

pub returns-in_err-rank-clause-text_event_read : goal.returns-in_err-rank-clause-text_event_read
returns-in_err-rank-clause-text_event_read c =
    let e = err_from_is_err_and c.from_residual-in_err-rank.result c.from_residual-in_err-rank.ensures.1 in
    Prim.rw (e.1, e.2)
    (ranked_unnumbered _ _ _ _ _ _ _ _ _ c.sign_due.ensures.sign_told c.in_ok-word.was c.number_due.ensures.number_told c.in_err-rank.was)

pub returns-then-rank-clause-text_event_read : goal.returns-then-rank-clause-text_event_read
returns-then-rank-clause-text_event_read c =
    ranked_off _ _ _ _ _ _ _ _ _ _ _ _ c.sign_due.ensures.sign_told c.in_ok-word.was c.number_due.ensures.number_told c.in_ok-rank.was c.if-rank.true refl

pub returns-in_err-next-clause-text_event_read : goal.returns-in_err-next-clause-text_event_read
returns-in_err-next-clause-text_event_read c =
    let e = err_from_is_err_and c.from_residual-in_err-next.result c.from_residual-in_err-next.ensures.1 in
    Prim.rw (e.1, e.2)
    (ranked_broken _ _ _ _ _ _ _ _ _ _ _ _ _ c.sign_due.ensures.sign_told c.in_ok-word.was c.number_due.ensures.number_told c.in_ok-rank.was
    c.if-rank.false c.from_at.ensures.rights_read c.in_err-next.was)

pub returns-clause-text_event_read : goal.returns-clause-text_event_read
returns-clause-text_event_read c =
    ranked_sent _ _ _ _ _ _ _ _ _ _ _ _ _ _ c.sign_due.ensures.sign_told c.in_ok-word.was c.number_due.ensures.number_told c.in_ok-rank.was
    c.if-rank.false c.from_at.ensures.rights_read c.in_ok-next.was
