-- What each return comes to, and that a turn keeps what the loop keeps.
use Rattle.lib_base.proofs.Prelude.{refl, arith}
use Rattle.std.proofs.lemmas.Result.{err_from_is_err_and}
use Rattle.source_behaviours.proofs.Loop.{turn_start, turn_over, turn_fault, turn_on}
use Rattle.source_behaviours.proofs.behaviours_at.Goals as goal

pub loop-word-init : goal.loop-word-init
loop-word-init c =
    let p = c.requires in
    turn_start _ _ _ _ _ _ _ _ c.args.starts.now p.1.0 p.1.1.1.1.1.1.0 p.1.1.1.1.1.1.1.0 p.1.1.1.1.1.1.1.1.0.0 p.1.1.1.1.1.1.1.1.0.1

pub returns-clause-behaviours_read : goal.returns-clause-behaviours_read
returns-clause-behaviours_read c =
    let t = c.loop-word.invariant in
    let h = rw c.in_default.is at c.heading_at.ensures.word_read in
    turn_over _ _ _ _ _ _ _ _ t h

pub returns-in_err-one-clause-behaviours_read : goal.returns-in_err-one-clause-behaviours_read
returns-in_err-one-clause-behaviours_read c =
    let t = c.loop-word.invariant in
    let e = err_from_is_err_and c.from_residual.result c.from_residual.ensures.1 in
    let h = rw c.in-Some.is at c.heading_at.ensures.word_read in
    let b = rw c.in_err-one.was at c.behaviour_at.ensures.behaviour_read in
    Prim.rw (e.1, e.2) (turn_fault _ _ _ _ _ _ _ _ t _ _ _ h.0 h.1 c.args.out.now c.args.out.now c.args.out.now _ _ refl b)

pub loop-word-preserved : goal.loop-word-preserved
loop-word-preserved c =
    let t = c.loop-word.invariant in
    let h = rw c.in-Some.is at c.heading_at.ensures.word_read in
    let g = rw c.in-Some.is at c.heading_at.ensures.word_within in
    let b = rw c.in_ok-one.was at c.behaviour_at.ensures.behaviour_read in
    let k = rw c.in_ok-one.was at c.behaviour_at.ensures.behaviour_within in
    rw c.or.ensures (turn_on _ _ _ _ _ _ _ _ t _ _ _ h.0 h.1 _ _ _ _ _ _ _ refl b k.2 (omega arith) k.1 (omega arith) k.4 k.5 c.behaviour_at.ensures.out_len_unchanged)
