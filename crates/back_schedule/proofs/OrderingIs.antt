-- On the draft of a program the order is phase one's, and the check passes exactly if the event has no cycle: by the
-- theorem on that order (crate back_figure3).
use Rattle.lib_base.proofs.Prelude.{ℕ, ◌≤◌, ◌-◌, ◌≡◌, ◌∙◌, ap, true, Bool, not, List, length, eqb, le-ltb, ltb-false}
use Rattle.lib_base.proofs.Prelude.{not-true, arith}
use Rattle.spec_language.specs.Syntax.{Program}
use Rattle.spec_language.specs.Dependence.{Response, follows, takes, defers, keeps, size, response, depends_on, Acyclic}
use Rattle.spec_language.specs.Order.{up_to, early, order, met_at_once, phase_one}
use Rattle.spec_language.specs.Fits.{Fits}
use Rattle.spec_language.specs.Accepted.{Known}
use Rattle.spec_language.specs.Code.{one?}
use Rattle.spec_language.proofs.Laws.{up_to_same}
use Rattle.draft_form.specs.Draft.{entry_of, used_by, Drafted}
use Rattle.draft_form.proofs.DraftLaws.{Entry, entry_of_law}
use Rattle.check_graph.specs.Matrix.{cell}
use Rattle.check_graph.proofs.OrderIs.{order_same}
use Rattle.check_faults.specs.Checks.{matrix_on}
use Rattle.check_faults.proofs.MatrixAgrees.{matrix_is}
use Rattle.check_faults.proofs.CycleDecides.{cell_is}
use Rattle.back_figure3.specs.Turns.{turns_in}
use Rattle.back_figure3.proofs.Compiles.{check_exactly}
use Rattle.back_counts.proofs.CountIs.{total_sum}
use Rattle.back_schedule.specs.Ordering.{met_mark, order_under, count_turns, is_ordered}

mark_early : (d : List ℕ) (v : ℕ) (r : Response) → Entry d v r → eqb (met_mark v) 0 ≡ early r
unfolding met_mark
mark_early d v (follows x) h = rw h.kind_is
mark_early d v (takes x) h = rw h.kind_is
mark_early d v (defers x) h = rw h.kind_is
mark_early d v keeps h = rw h

turn_early : (d : List ℕ) (v : ℕ) (r : Response) → Entry d v r → 1 - met_mark v ≡ one? (early r)
unfolding met_mark
turn_early d v (follows x) h = rw h.kind_is
turn_early d v (takes x) h = rw h.kind_is
turn_early d v (defers x) h = rw h.kind_is
turn_early d v keeps h = rw h

module _ (p : Program) (d : List ℕ) (n : ℕ) (dr : Drafted p d n) (fits : Fits p) (e : ℕ) (b : e ≤ 32) where
  pub order_is : order_under d e (size p) ≡ phase_one p e
  unfolding order_under phase_one met_at_once
  order_is =
      let m = matrix_on d e (size p) in
      let f : ℕ → Bool = λ i. not (eqb (met_mark (entry_of d e i)) 0) in
      let small : size p ≤ 64 = fits.few_behaviours in
      order_same (size p) (λ i j. cell m i j) (depends_on p e)
      (λ i j h k. ap (λ (x : List ℕ). cell x i j) (matrix_is p d n e fits dr b) ∙ cell_is p e i j (omega arith) (omega arith)) (size p) (up_to (size p) f)
      ∙ ap (order (size p) (depends_on p e) (size p))
      (up_to_same (size p) f (λ i. not (early (response p e i)))
      (λ i h. ap not (mark_early (used_by d i) (entry_of d e i) (response p e i) (entry_of_law p d n dr e i b h))))

  turns_are : count_turns d e (size p) ≡ turns_in p e
  unfolding count_turns turns_in
  turns_are =
      total_sum (size p) (λ i. 1 - met_mark (entry_of d e i)) (λ i. one? (early (response p e i)))
      (λ i h. turn_early (used_by d i) (entry_of d e i) (response p e i) (entry_of_law p d n dr e i b h))

  -- the check passes exactly if no behaviour reaches itself on the event
  pub ordered_exactly : Known p → ((is_ordered d e (size p) ≡ true → Acyclic p e) × (Acyclic p e → is_ordered d e (size p) ≡ true))
  unfolding is_ordered
  ordered_exactly known = (
    λ h. (check_exactly p e known).0
        (rw (turns_are, order_is) at (ltb-false (length (order_under d e (size p))) (count_turns d e (size p)) (not-true _ h))),
    λ h. ap not (le-ltb (length (order_under d e (size p))) (count_turns d e (size p)) (rw (turns_are, order_is) ((check_exactly p e known).1 h))),
  )
