-- Demand 2, first sentence, of the model engine: in an idle engine, an event that is taken in and stepped alone to its
-- commit leaves the store of its meaning. By induction on the instructions left: nothing waits, so each step is the
-- next instruction.
use Rattle.lib_base.proofs.Prelude.{ℕ, ◌≤◌, ◌<◌, ◌+◌, ◌-◌, suc, zero, ◌≡◌, refl, ◌∙◌, sym, ap, subst, true, Bool, List}
use Rattle.lib_base.proofs.Prelude.{[], ◌∷◌, ◌++◌, length, get_or, drop, replicate, drop_of_length-le, drop-cons, add-one}
use Rattle.lib_base.proofs.Prelude.{le-ltb, lt-ltb, lt-leb, arith}
use Rattle.spec_language.specs.Syntax.{Program}
use Rattle.spec_language.specs.Dependence.{size, events}
use Rattle.spec_language.specs.Rights.{may_send}
use Rattle.spec_language.specs.Code.{Instr, off, code}
use Rattle.spec_semantics.specs.Event.{event}
use Rattle.spec_execution.specs.Execution.{Values, execute, emptied}
use Rattle.spec_execution.specs.Runs.{execute_all}
use Rattle.spec_execution.specs.CodeFacts.{CodeFacts}
use Rattle.spec_model.specs.Model.{Arrival, arrival, rest, busy, engine, arrive, step, Answer, told_taken_in, ran, started, committed, Outcome, outcome, act, run}
use Rattle.spec_model.specs.Claims.{alone_calls}
use Rattle.spec_model.proofs.Calls.{answers}

module _ (p : Program) where
  -- one instruction that is not the last, and the last
  step_ran : (t : ℕ) (a : Arrival) (c : ℕ) (d : Values) → c + 1 < length (code p a.event)
      → ((act p step (engine t [] (busy a c) d)).answer ≡ ran) × ((act p step (engine t [] (busy a c) d)).after ≡ engine t [] (busy a (c + 1)) (execute (get_or (code p a.event) c off) d))
  unfolding act
  step_ran t a c d h = rw (lt-ltb (c + 1) (length (code p a.event)) h) (refl, refl)

  step_last : (t : ℕ) (a : Arrival) (c : ℕ) (d : Values) → length (code p a.event) ≤ c + 1
      → ((act p step (engine t [] (busy a c) d)).answer ≡ committed a (execute (get_or (code p a.event) c off) d).mark) × ((act p step (engine t [] (busy a c) d)).after ≡ engine t [] rest (execute (get_or (code p a.event) c off) d))
  unfolding act
  step_last t a c d h = rw (le-ltb (c + 1) (length (code p a.event)) h) (refl, refl)

  module _ (t : ℕ) (a : Arrival) where
    abbrev is : List Instr
    is = code p a.event

    rest_of : (c : ℕ) (d : Values) → c < length is → execute_all (drop c is) d ≡ execute_all (drop (c + 1) is) (execute (get_or is c off) d)
    unfolding execute_all
    rest_of c d h = rw (add-one, drop-cons is c off)

    -- k instructions and the last
    finish : (k c : ℕ) (d : Values) → c + suc k ≡ length is
        → (answers p (replicate (suc k) step) (engine t [] (busy a c) d) ≡ replicate k ran ++ (committed a (execute_all (drop c is) d).mark ∷ []))
        × (run p (replicate (suc k) step) (engine t [] (busy a c) d) ≡ engine t [] rest (execute_all (drop c is) d))
    unfolding answers run execute_all
    finish zero c d h =
        let s = step_last t a c d (omega arith) in
        let b : length is ≤ c + 1 = omega arith in
        let z : drop (c + 1) is ≡ [] = drop_of_length-le is b in
        (rw (s.0, rest_of c d (omega arith), z), rw (s.1, rest_of c d (omega arith), z))
    finish (suc k) c d h =
        let s = step_ran t a c d (omega arith) in
        let ih = finish k (c + 1) (execute (get_or is c off) d) (omega arith) in
        (rw (s.0, s.1, ih.0, rest_of c d (omega arith)), ap (run p (replicate (suc k) step)) s.1 ∙ ih.1 ∙ ap (engine t [] rest) (sym (rest_of c d (omega arith))))

  -- the answers to those calls, and the store after them
  abbrev pub alone_answers : ℕ → ℕ → ℕ → Bool → List Answer
  alone_answers t e who m = told_taken_in ∷ started (arrival t e who) ∷ (replicate (length (code p e) - 1) ran ++ (committed (arrival t e who) m ∷ []))

  module _ (facts : CodeFacts p) (t e who : ℕ) (d : Values) (declared : e < events p) (eight : who < 8) (sends : may_send p who e ≡ true) (room : t < 1000000) (whole : length d.store ≡ size p) where
    abbrev marked : Bool
    marked = (execute_all (code p e) (emptied d.store)).mark

    -- the arrival, the start, and k instructions and the last
    taken_in : act p (arrive e who) (engine t [] rest d) ≡ outcome told_taken_in (engine (t + 1) (arrival t e who ∷ []) rest d)
    unfolding act
    taken_in = rw (lt-leb 8 who eight, lt-leb (events p) e declared, sends, lt-leb 1000000 t room)

    starts : act p step (engine (t + 1) (arrival t e who ∷ []) rest d) ≡ outcome (started (arrival t e who)) (engine (t + 1) [] (busy (arrival t e who) 0) (emptied d.store))
    unfolding act
    starts = refl

    said_alone : (k : ℕ) → suc k ≡ length (code p e)
        → answers p (arrive e who ∷ step ∷ replicate (suc k) step) (engine t [] rest d) ≡ told_taken_in ∷ started (arrival t e who) ∷ (replicate k ran ++ (committed (arrival t e who) marked ∷ []))
    unfolding answers
    said_alone k n =
        let f = finish (t + 1) (arrival t e who) k 0 (emptied d.store) (omega arith) in
        ap (λ (o : Outcome). o.answer ∷ answers p (step ∷ replicate (suc k) step) o.after) taken_in
        ∙ ap (λ (o : Outcome). told_taken_in ∷ o.answer ∷ answers p (replicate (suc k) step) o.after) starts
        ∙ ap (λ (l : List Answer). told_taken_in ∷ started (arrival t e who) ∷ l) f.0

    run_alone : (k : ℕ) → suc k ≡ length (code p e)
        → run p (arrive e who ∷ step ∷ replicate (suc k) step) (engine t [] rest d) ≡ engine (t + 1) [] rest (execute_all (code p e) (emptied d.store))
    unfolding run
    run_alone k n =
        let f = finish (t + 1) (arrival t e who) k 0 (emptied d.store) (omega arith) in
        ap (λ (o : Outcome). run p (step ∷ replicate (suc k) step) o.after) taken_in
        ∙ ap (λ (o : Outcome). run p (replicate (suc k) step) o.after) starts
        ∙ f.1

    pub alone : (answers p (alone_calls p e who) (engine t [] rest d) ≡ alone_answers t e who marked)
        × (run p (alone_calls p e who) (engine t [] rest d) ≡ engine (t + 1) [] rest (execute_all (code p e) (emptied d.store)))
        × ((execute_all (code p e) (emptied d.store)).store ≡ event p e d.store)
    alone =
        let k : ℕ = length (code p e) - 1 in
        let n : suc k ≡ length (code p e) = omega (arith, facts.long e declared) in (
          subst (λ (m : ℕ). answers p (arrive e who ∷ step ∷ replicate m step) (engine t [] rest d) ≡ alone_answers t e who marked) n (said_alone k n),
          subst (λ (m : ℕ). run p (arrive e who ∷ step ∷ replicate m step) (engine t [] rest d) ≡ engine (t + 1) [] rest (execute_all (code p e) (emptied d.store))) n (run_alone k n),
          facts.right e declared d.store whole,
        )
