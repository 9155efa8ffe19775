-- A commit's mark is that of the event's meaning on the store of the commits: the running one's values are those of its
-- first instructions over that store, and the last one makes them the whole code's.
use Rattle.lib_base.proofs.Prelude.{ℕ, ◌≤◌, ◌<◌, ◌+◌, ◌≡◌, refl, ◌∙◌, sym, ap, subst, true, false, Bool, false≢true}
use Rattle.lib_base.proofs.Prelude.{List, [], ◌∷◌, length, get_or, take_all, ltb, ltb-false}
use Rattle.lib_base.proofs.Tools.{by_test}
use Rattle.spec_language.specs.Syntax.{Program}
use Rattle.spec_language.specs.Dependence.{size, events}
use Rattle.spec_language.specs.Code.{off, code}
use Rattle.spec_semantics.specs.OverMeaning.{event_over}
use Rattle.spec_execution.specs.Execution.{Values, execute, emptied}
use Rattle.spec_execution.specs.CodeFacts.{CodeFacts}
use Rattle.spec_model.specs.Model.{Arrival, rest, busy, Engine, engine, step, Answer, refused, told_taken_in, shows, idle, ran, started, preempted, committed, Outcome, rank, masked, choose, advance, act}
use Rattle.spec_model.proofs.Reached.{Done, DoneIn, Reached, executed_next}

-- the event and the mark of a commit; what is not one has none
abbrev commits : Answer → Bool
commits (refused n) = false
commits told_taken_in = false
commits (shows v) = false
commits idle = false
commits ran = false
commits (started a) = false
commits (preempted a) = false
commits (committed a m) = true

module _ (p : Program) (facts : CodeFacts p) (s : List ℕ) (sized : length s ≡ size p) where
  abbrev Right : Answer → Type 0
  Right x = (a : Arrival) (m : Bool) → x ≡ committed a m → (a.event < events p) × (m ≡ event_over p a.event s)

  other : (x : Answer) → commits x ≡ false → Right x
  other x h a m e = absurd (false≢true (sym h ∙ ap commits e))

  -- the last instruction
  last_mark : (a : Arrival) (c : ℕ) (d : Values) → a.event < events p → length (code p a.event) ≤ c + 1 → Done p s (busy a c) d
      → (execute (get_or (code p a.event) c off) d).mark ≡ event_over p a.event s
  last_mark a c d f k q =
      ap (λ (v : Values). v.mark) (executed_next p (code p a.event) c d (emptied s) q.0 q.1)
      ∙ rw (take_all (c + 1) (code p a.event) k) (facts.marked a.event f s sized)

  commit_right : (a : Arrival) (x : Bool) → a.event < events p → x ≡ event_over p a.event s → Right (committed a x)
  commit_right a x f h b m e = let z : a ≡ b = cc e in (subst (λ (y : Arrival). y.event < events p) z f, cc (h, e))

  advance_right : (t : ℕ) (waiting : List Arrival) (a : Arrival) (c : ℕ) (d : Values) → a.event < events p → Done p s (busy a c) d
      → Right (advance p t waiting a c d).answer
  advance_right t waiting a c d f q =
      by_test (λ (o : Outcome). Right o.answer) (ltb (c + 1) (length (code p a.event))) (λ _. other ran refl)
      (λ e. commit_right a _ f (last_mark a c d f (ltb-false _ _ e) q))

  pub step_right : (w : Engine) → Reached p w → DoneIn p s w → Right (act p step w).answer
  unfolding act
  step_right (engine t [] rest d) r q = other idle refl
  step_right (engine t (b ∷ l) rest d) r q = other (started (choose p b l).next) refl
  step_right (engine t [] (busy a c) d) r q = advance_right t [] a c d r.fine.0.1 q
  step_right (engine t (b ∷ l) (busy a c) d) r q =
      by_test (λ (o : Outcome). Right o.answer) (masked p a c) (λ _. advance_right t (b ∷ l) a c d r.fine.0.1 q)
      (λ _. by_test (λ (o : Outcome). Right o.answer) (ltb (rank p a) (rank p (choose p b l).next)) (λ _. other (preempted (choose p b l).next) refl)
      (λ _. advance_right t (b ∷ l) a c d r.fine.0.1 q))
