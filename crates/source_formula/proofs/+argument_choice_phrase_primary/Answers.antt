-- What each of the four functions hands to the next, and what each return comes to: the loop of a formula by `Turns`,
-- the operands by `Primaries` and `Choices`.
use Rattle.lib_base.proofs.Prelude.{length, refl, arith}
use Rattle.std.proofs.lemmas.Result.{err_from_is_err_and}
use Rattle.source_formula.proofs.Turns.{turn_start, turn_begun, turn_fault, turn_end, turn_stop, turn_closed, closing_on, operand_room, operand_headable, turn_operator, operator_less}
use Rattle.source_formula.proofs.Primaries.{plain_read, not_too_deep, if_too_deep, if_read, not_headable, not_read}
use Rattle.source_formula.proofs.Choices.{argument_missing, argument_read, gone_start, gone_further, kept_after, gone_room, gone_inside, ended_headable, choice_read}
use Rattle.source_formula.proofs.+argument_choice_phrase_primary.Goals as goal

pub argument-returns-in_err-due : goal.argument-returns-in_err-due
argument-returns-in_err-due t c =
    let e = err_from_is_err_and c.from_residual-in_err-due.result c.from_residual-in_err-due.ensures.1 in
    Prim.rw (e.1, e.2) (argument_missing _ _ _ _ _ _ _ _ c.in_ok-before.was _ c.sign_due.ensures.sign_told _ c.in_err-due.was)

pub argument-phrase-formula-requires : goal.argument-phrase-formula-requires
argument-phrase-formula-requires t c =
    let h = rw c.in_ok-before.was at c.requires.text_len_bound.1 in
    let b = rw c.in_ok-due.was at c.sign_due.ensures.due_within in
    let few = c.requires.sorted_in_bounds in
    let room = c.requires.lt_room in
    (omega (arith, c.decreases, room.0), ((c.requires.text_len_bound.0, b.2, omega arith, few.0, few.1, few.2), (omega arith, omega (arith, room.0), omega (arith, room.1))))

pub argument-returns : goal.argument-returns
argument-returns t c =
    argument_read _ _ _ _ _ _ _ _ c.in_ok-before.was _ c.sign_due.ensures.sign_told _ _ _ c.in_ok-due.was c.sign_due.ensures.due_within _ _ _ c.phrase-formula.ensures c.under.ensures

pub choice-argument-one-requires : goal.choice-argument-one-requires
choice-argument-one-requires t c =
    let P = c.requires.formula_readable in
    (omega (arith, c.decreases), ((P.0, (P.1, P.2)), ((P.3, P.4, P.5), ((omega arith, omega arith), c.requires.lt_room))))

pub choice-argument-two-requires : goal.choice-argument-two-requires
choice-argument-two-requires t c =
    let P = c.requires.formula_readable in
    let one = c.argument-one.ensures in
    let g₁ = gone_further _ _ _ _ _ c.args.cursor.at c.args.cursor.end _ _ _ _ one (gone_start _ _ _ _ P.1) in
    let k₁ = kept_after _ _ _ _ _ _ _ _ _ one in
    (omega (arith, c.decreases), ((P.0, gone_room _ _ _ _ _ g₁ P.2), ((P.3, P.4, omega (arith, k₁, P.5)), ((omega arith, omega arith), c.requires.lt_room))))

pub choice-argument-three-requires : goal.choice-argument-three-requires
choice-argument-three-requires t c =
    let P = c.requires.formula_readable in
    let one = c.argument-one.ensures in
    let g₁ = gone_further _ _ _ _ _ c.args.cursor.at c.args.cursor.end _ _ _ _ one (gone_start _ _ _ _ P.1) in
    let k₁ = kept_after _ _ _ _ _ _ _ _ _ one in
    let two = c.argument-two.ensures in
    let g₂ = gone_further _ _ _ _ _ c.args.cursor.at c.args.cursor.end _ _ _ _ two g₁ in
    let k₂ = kept_after _ _ _ _ _ _ _ _ _ two in
    (omega (arith, c.decreases), ((P.0, gone_room _ _ _ _ _ g₂ P.2), ((P.3, P.4, omega (arith, k₁, k₂, P.5)), ((omega arith, omega arith), c.requires.lt_room))))

pub choice-ended-r-requires-clause-read_inside : goal.choice-ended-r-requires-clause-read_inside
choice-ended-r-requires-clause-read_inside t c =
    let P = c.requires.formula_readable in
    let one = c.argument-one.ensures in
    let g₁ = gone_further _ _ _ _ _ c.args.cursor.at c.args.cursor.end _ _ _ _ one (gone_start _ _ _ _ P.1) in
    let k₁ = kept_after _ _ _ _ _ _ _ _ _ one in
    let two = c.argument-two.ensures in
    let g₂ = gone_further _ _ _ _ _ c.args.cursor.at c.args.cursor.end _ _ _ _ two g₁ in
    let k₂ = kept_after _ _ _ _ _ _ _ _ _ two in
    let three = c.argument-three.ensures in
    let g₃ = gone_further _ _ _ _ _ c.args.cursor.at c.args.cursor.end _ _ _ _ three g₂ in
    let k₃ = kept_after _ _ _ _ _ _ _ _ _ three in
    gone_inside _ _ _ _ _ g₃

pub choice-close-requires-clause-headable : goal.choice-close-requires-clause-headable
choice-close-requires-clause-headable t c =
    let P = c.requires.formula_readable in
    let one = c.argument-one.ensures in
    let g₁ = gone_further _ _ _ _ _ c.args.cursor.at c.args.cursor.end _ _ _ _ one (gone_start _ _ _ _ P.1) in
    let k₁ = kept_after _ _ _ _ _ _ _ _ _ one in
    let two = c.argument-two.ensures in
    let g₂ = gone_further _ _ _ _ _ c.args.cursor.at c.args.cursor.end _ _ _ _ two g₁ in
    let k₂ = kept_after _ _ _ _ _ _ _ _ _ two in
    let three = c.argument-three.ensures in
    let g₃ = gone_further _ _ _ _ _ c.args.cursor.at c.args.cursor.end _ _ _ _ three g₂ in
    let k₃ = kept_after _ _ _ _ _ _ _ _ _ three in
    ended_headable _ _ _ _ c.argument-three.result c.ended-r.result g₃ c.ended-r.ensures P.2 (omega (arith, c.requires.lt_room.1)) P.0

pub choice-close-requires-clause-out_len_bound : goal.choice-close-requires-clause-out_len_bound
choice-close-requires-clause-out_len_bound t c =
    let P = c.requires.formula_readable in
    let one = c.argument-one.ensures in
    let g₁ = gone_further _ _ _ _ _ c.args.cursor.at c.args.cursor.end _ _ _ _ one (gone_start _ _ _ _ P.1) in
    let k₁ = kept_after _ _ _ _ _ _ _ _ _ one in
    let two = c.argument-two.ensures in
    let g₂ = gone_further _ _ _ _ _ c.args.cursor.at c.args.cursor.end _ _ _ _ two g₁ in
    let k₂ = kept_after _ _ _ _ _ _ _ _ _ two in
    let three = c.argument-three.ensures in
    let g₃ = gone_further _ _ _ _ _ c.args.cursor.at c.args.cursor.end _ _ _ _ three g₂ in
    let k₃ = kept_after _ _ _ _ _ _ _ _ _ three in
    omega (arith, k₁, k₂, k₃, P.5)

pub choice-returns : goal.choice-returns
choice-returns t c =
    let P = c.requires.formula_readable in
    let one = c.argument-one.ensures in
    let g₁ = gone_further _ _ _ _ _ c.args.cursor.at c.args.cursor.end _ _ _ _ one (gone_start _ _ _ _ P.1) in
    let k₁ = kept_after _ _ _ _ _ _ _ _ _ one in
    let two = c.argument-two.ensures in
    let g₂ = gone_further _ _ _ _ _ c.args.cursor.at c.args.cursor.end _ _ _ _ two g₁ in
    let k₂ = kept_after _ _ _ _ _ _ _ _ _ two in
    let three = c.argument-three.ensures in
    let g₃ = gone_further _ _ _ _ _ c.args.cursor.at c.args.cursor.end _ _ _ _ three g₂ in
    let k₃ = kept_after _ _ _ _ _ _ _ _ _ three in
    choice_read _ _ _ _ _ _ _ _ _ c.argument-three.result c.ended-r.result c.ended-r.ensures _ three _ two _ _ _ one g₃ c.requires.lt_room.0
    c.close.ensures.value c.close.ensures.out_after c.close.auto.out

pub phrase-primary-requires : goal.phrase-primary-requires
phrase-primary-requires t c =
    let P = c.requires.formula_readable in
    let b = c.brackets_at-brackets.ensures in
    let low = c.requires.level_le_disjunction in
    (omega (arith, c.decreases), ((P.0, b.within, omega (arith, b.from, P.2), P.3, P.4, P.5), (low.1, low.2, b.begun)))

pub phrase-returns-in_err-formula : goal.phrase-returns-in_err-formula
phrase-returns-in_err-formula t c =
    let e = err_from_is_err_and c.from_residual.result c.from_residual.ensures.1 in
    Prim.rw (e.1, e.2) (turn_fault _ _ _ _ _ _ _ _ _ _ _ (turn_start _ _ _ _ _ _ _ _ _ _ _ c.requires.level_le_disjunction.1 c.brackets_at-brackets.ensures _ c.primary.ensures) _ c.in_err-formula.was)

pub phrase-loop-next-init : goal.phrase-loop-next-init
phrase-loop-next-init t c =
    turn_begun _ _ _ _ _ _ _ _ _ _ _ c.requires.level_le_disjunction.1 c.brackets_at-brackets.ensures _ _ c.in_ok-formula.was c.primary.ensures

pub phrase-onward_at-requires-clause-at_in_bounds : goal.phrase-onward_at-requires-clause-at_in_bounds
phrase-onward_at-requires-clause-at_in_bounds t c =
    c.loop-next.invariant.inside.1

pub phrase-returns-in_err-onward_at : goal.phrase-returns-in_err-onward_at
phrase-returns-in_err-onward_at t c =
    let e = err_from_is_err_and c.from_residual-in_err-onward_at.result c.from_residual-in_err-onward_at.ensures.1 in
    Prim.rw (e.1, e.2) (turn_stop _ _ _ _ _ _ _ _ _ _ _ c.loop-next.invariant _ _ _ _ refl c.onward_at.ensures.nonzero _ _ c.in_err-onward_at.was c.onward_at.ensures.onward_read)

pub phrase-returns-in-Ended : goal.phrase-returns-in-Ended
phrase-returns-in-Ended t c =
    turn_end _ _ _ _ _ _ _ _ _ _ _ c.loop-next.invariant _ _ _ _ refl c.onward_at.ensures.nonzero _ (rw c.in-Ended.is at c.in_ok-onward_at.was) c.onward_at.ensures.onward_read

pub phrase-overflow_sub-opened : goal.phrase-overflow_sub-opened
phrase-overflow_sub-opened t c =
    let h = closing_on _ _ _ _ _ _ _ _ _ _ _ c.loop-next.invariant _ _ _ _ refl c.onward_at.ensures.nonzero _ _ (rw c.in-Closed.is at c.in_ok-onward_at.was) c.onward_at.ensures.onward_read in
    omega (arith, h.0)

pub phrase-loop-next-smaller-in-Closed : goal.phrase-loop-next-smaller-in-Closed
phrase-loop-next-smaller-in-Closed t c =
    let h = closing_on _ _ _ _ _ _ _ _ _ _ _ c.loop-next.invariant _ _ _ _ refl c.onward_at.ensures.nonzero _ _ (rw c.in-Closed.is at c.in_ok-onward_at.was) c.onward_at.ensures.onward_read in
    omega (arith, h.1, h.2)

pub phrase-loop-next-preserved-in-Closed : goal.phrase-loop-next-preserved-in-Closed
phrase-loop-next-preserved-in-Closed t c =
    turn_closed _ _ _ _ _ _ _ _ _ _ _ c.loop-next.invariant _ _ _ _ refl c.onward_at.ensures.nonzero _ _ (rw c.in-Closed.is at c.in_ok-onward_at.was) c.onward_at.ensures.onward_read

pub phrase-phrase-r-requires : goal.phrase-phrase-r-requires
phrase-phrase-r-requires t c =
    let P = c.requires.formula_readable in
    let T = c.loop-next.invariant in
    let low = c.requires.level_le_disjunction in
    let R = operand_room _ _ _ _ _ _ _ _ _ _ _ c.loop-next.invariant _ _ _ _ refl c.onward_at.ensures.nonzero _ _ _ _ (rw c.in-Operator.is at c.in_ok-onward_at.was) c.onward_at.ensures.onward_read P.2 low.2 in
    (omega (arith, c.decreases, R.4), ((P.0, R.1, R.2, P.3, P.4, omega (arith, T.kept, P.5)), (R.3, R.4, R.5)))

pub phrase-close-requires-clause-headable : goal.phrase-close-requires-clause-headable
phrase-close-requires-clause-headable t c =
    let P = c.requires.formula_readable in
    operand_headable _ _ _ _ _ _ _ _ _ _ _ c.loop-next.invariant _ _ _ _ refl c.onward_at.ensures.nonzero _ _ _ _ (rw c.in-Operator.is at c.in_ok-onward_at.was) c.onward_at.ensures.onward_read _ _ c.phrase-r.ensures P.2 c.requires.level_le_disjunction.2 P.0

pub phrase-returns-in_err-formula-in-Operator : goal.phrase-returns-in_err-formula-in-Operator
phrase-returns-in_err-formula-in-Operator t c =
    let e = err_from_is_err_and c.from_residual-in_err-formula-in-Operator.result c.from_residual-in_err-formula-in-Operator.ensures.1 in
    Prim.rw (e.1, e.2) (turn_fault _ _ _ _ _ _ _ _ _ _ _
    (turn_operator _ _ _ _ _ _ _ _ _ _ _ c.loop-next.invariant _ _ _ _ refl c.onward_at.ensures.nonzero _ _ _ _ (rw c.in-Operator.is at c.in_ok-onward_at.was) c.onward_at.ensures.onward_read _ _ c.phrase-r.ensures _ _ c.close.ensures.value c.close.ensures.out_after c.close.auto.out) _ c.in_err-formula-in-Operator.was)

pub phrase-loop-next-smaller : goal.phrase-loop-next-smaller
phrase-loop-next-smaller t c =
    let less = operator_less _ _ _ _ _ _ _ _ _ _ _ c.loop-next.invariant _ _ _ _ refl c.onward_at.ensures.nonzero _ _ _ _ (rw c.in-Operator.is at c.in_ok-onward_at.was) c.onward_at.ensures.onward_read _ _ c.phrase-r.ensures _ _ _ c.close.ensures.value in
    rw c.in_ok-formula-in-Operator.was at less

pub phrase-loop-next-preserved : goal.phrase-loop-next-preserved
phrase-loop-next-preserved t c =
    rw c.in_ok-formula-in-Operator.was at
    (turn_operator _ _ _ _ _ _ _ _ _ _ _ c.loop-next.invariant _ _ _ _ refl c.onward_at.ensures.nonzero _ _ _ _ (rw c.in-Operator.is at c.in_ok-onward_at.was) c.onward_at.ensures.onward_read _ _ c.phrase-r.ensures _ _ c.close.ensures.value c.close.ensures.out_after c.close.auto.out)

pub primary-returns-then-cursor-lt2 : goal.primary-returns-then-cursor-lt2
primary-returns-then-cursor-lt2 t c =
    not_too_deep _ _ _ _ _ _ _ _ _ _ c.sign_before-standing.ensures _ c.if-standing-eq-NOT.true c.if-cursor-lt2.true refl

pub primary-phrase-r-requires : goal.primary-phrase-r-requires
primary-phrase-r-requires t c =
    let P = c.requires.formula_readable in
    let st = c.sign_before-standing.ensures in
    let sign_is = c.if-standing-eq-NOT.true in
    let b = st.further (omega arith) (omega arith) in (
      omega (arith, c.decreases, c.if-cursor-lt2.false),
      ((P.0, b.1, omega (arith, P.2), P.3, P.4, P.5), (omega arith, omega (arith, c.if-cursor-lt2.false), omega (arith, c.requires.room_nonzero.1))),
    )

pub primary-close-requires-clause-headable : goal.primary-close-requires-clause-headable
primary-close-requires-clause-headable t c =
    let P = c.requires.formula_readable in
    let st = c.sign_before-standing.ensures in
    let sign_is = c.if-standing-eq-NOT.true in
    let b = st.further (omega arith) (omega arith) in
    let a = c.args in
    not_headable (length a.text.now) a.cursor.room a.cursor.at c.sign_before-standing.result.next a.cursor.end c.phrase-r.result c.phrase-r.ensures.within b
    P.2 c.requires.room_nonzero.1 P.0

pub primary-returns-then-standing-eq-NOT : goal.primary-returns-then-standing-eq-NOT
primary-returns-then-standing-eq-NOT t c =
    let sign_is = c.if-standing-eq-NOT.true in
    not_read _ _ _ _ _ _ _ _ _ _ c.sign_before-standing.ensures (omega arith) _ _ c.phrase-r.ensures _ _ sign_is (omega (arith, c.if-cursor-lt2.false))
    c.close.ensures.value c.close.ensures.out_after c.close.auto.out

pub primary-returns-then-cursor-lt2-2 : goal.primary-returns-then-cursor-lt2-2
primary-returns-then-cursor-lt2-2 t c =
    if_too_deep _ _ _ _ _ _ _ _ _ _ c.sign_before-standing.ensures _ c.if-standing-eq-IF.true c.if-cursor-lt2-2.true refl

pub primary-choice-requires : goal.primary-choice-requires
primary-choice-requires t c =
    let P = c.requires.formula_readable in
    let st = c.sign_before-standing.ensures in
    let sign_is = c.if-standing-eq-IF.true in
    let b = st.further (omega arith) (omega arith) in (
      omega (arith, c.decreases),
      ((P.0, b.1, omega (arith, P.2), P.3, P.4, P.5), (omega (arith, c.if-cursor-lt2-2.false), c.requires.room_nonzero.1)),
    )

pub primary-returns-then-standing-eq-IF : goal.primary-returns-then-standing-eq-IF
primary-returns-then-standing-eq-IF t c =
    let sign_is = c.if-standing-eq-IF.true in
    if_read _ _ _ _ _ _ _ _ _ _ c.sign_before-standing.ensures (omega arith) _ _ sign_is (omega (arith, c.if-cursor-lt2-2.false)) c.choice.ensures

pub primary-returns : goal.primary-returns
primary-returns t c =
    plain_read _ _ _ _ _ _ _ _ _ _ c.sign_before-standing.ensures _ _ c.if-standing-eq-NOT.false c.if-standing-eq-IF.false c.requires.room_nonzero.0 c.plain_at.ensures
