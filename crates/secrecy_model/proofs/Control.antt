-- What an engine does next hangs on its control alone, the number taken in, the waiting and the running one, and not on
-- its values: these are seen only by a board reading and in a commit's mark. So two engines whose programs have the
-- same code go on alike. An engine is held against the one with its control and no values.
use Rattle.lib_base.proofs.Prelude.{ℕ, ◌+◌, max, ◌≡◌, refl, ◌∙◌, sym, ap, List, [], ◌∷◌, map, sum, length, ltb, leb}
use mathlib.Core.List.{foldr}
use Rattle.lib_base.proofs.Tools.{by_two}
use Rattle.spec_language.specs.Syntax.{Program}
use Rattle.spec_language.specs.Rights.{may_send, may_see}
use Rattle.spec_language.specs.Dependence.{size, events}
use Rattle.spec_language.specs.Order.{up_to}
use Rattle.spec_language.specs.Code.{code}
use Rattle.spec_execution.specs.Execution.{Values, emptied}
use Rattle.spec_model.specs.Model.{Arrival, Running, rest, busy, Engine, engine, queue, Call, arrive, step, board, Answer, refused, told_taken_in, shows, idle, ran, started, preempted, committed, Outcome, rank, masked, in_copy_back, choose, advance, stepped, arrived, read, act}
use Rattle.spec_model.specs.Claims.{in_queue, copy_back_in, longest, steps_of, forecast, count_in}
use Rattle.spec_model.specs.Told.{unmarked}
use Rattle.secrecy_model.proofs.Programs.{Alike, events_same, code_same}

-- an engine without its values
abbrev pub control : Engine → Engine
control (engine t waiting r d) = engine t waiting r (emptied [])

-- an answer without what its values have told
abbrev pub blank : Answer → Answer
blank (refused n) = refused n
blank told_taken_in = told_taken_in
blank (shows v) = shows 0
blank idle = idle
blank ran = ran
blank (started a) = started a
blank (preempted a) = preempted a
blank (committed a m) = committed a m

abbrev pub hushed : Call → Answer → Answer
hushed (arrive e who) a = a
hushed step a = unmarked a
hushed (board i who) a = blank a

-- ---- one program, other values

abbrev Near : Outcome → Outcome → Type 0
Near x y = (unmarked x.answer ≡ unmarked y.answer) × (control x.after ≡ control y.after)

module _ (p : Program) where
  advance_near : (t : ℕ) (waiting : List Arrival) (a : Arrival) (c : ℕ) (d f : Values) → Near (advance p t waiting a c d) (advance p t waiting a c f)
  advance_near t waiting a c d f = by_two Near (ltb (c + 1) (length (code p a.event))) (λ h. (refl, refl)) (λ h. (refl, refl))

  stepped_near : (t : ℕ) (waiting : List Arrival) (r : Running) (d f : Values) → Near (stepped p t waiting r d) (stepped p t waiting r f)
  stepped_near t [] rest d f = (refl, refl)
  stepped_near t (b ∷ l) rest d f = (refl, refl)
  stepped_near t [] (busy a n) d f = advance_near t [] a n d f
  stepped_near t (b ∷ l) (busy a n) d f =
      by_two Near (masked p a n) (λ h. advance_near t (b ∷ l) a n d f)
      (λ h. by_two Near (ltb (rank p a) (rank p (choose p b l).next)) (λ k. (refl, refl)) (λ k. advance_near t (b ∷ l) a n d f))

  abbrev Equal : Outcome → Outcome → Type 0
  Equal x y = (x.answer ≡ y.answer) × (control x.after ≡ control y.after)

  arrived_equal : (e who t : ℕ) (waiting : List Arrival) (r : Running) (d f : Values) → Equal (arrived p e who t waiting r d) (arrived p e who t waiting r f)
  arrived_equal e who t waiting r d f =
      by_two Equal (leb 8 who) (λ h. (refl, refl))
      (λ h. by_two Equal (leb (events p) e) (λ h. (refl, refl))
      (λ h. by_two Equal (may_send p who e)
      (λ h. by_two Equal (leb 64 (length (queue waiting r))) (λ h. (refl, refl))
      (λ h. by_two Equal (leb 1000000 t) (λ h. (refl, refl)) (λ h. (refl, refl))))
      (λ h. (refl, refl))))

  read_blank : (i who : ℕ) (r : Running) (d f : Values) → blank (read p i who r d) ≡ blank (read p i who r f)
  read_blank i who r d f =
      let P : Answer → Answer → Type 0 = λ x y. blank x ≡ blank y in
      by_two P (leb 8 who) (λ h. refl)
      (λ h. by_two P (leb (size p) i) (λ h. refl)
      (λ h. by_two P (may_see p who i)
      (λ h. by_two P (in_copy_back p r) (λ h. refl) (λ h. refl))
      (λ h. refl)))

  abbrev Alone : Call → Outcome → Outcome → Type 0
  Alone c x y = (hushed c x.answer ≡ hushed c y.answer) × (control x.after ≡ control y.after)

  act_alone : (c : Call) (w : Engine) → Alone c (act p c w) (act p c (control w))
  unfolding act
  act_alone (arrive e who) (engine t waiting r d) = arrived_equal e who t waiting r d (emptied [])
  act_alone step (engine t waiting r d) = stepped_near t waiting r d (emptied [])
  act_alone (board i who) (engine t waiting r d) = (read_blank i who r d (emptied []), refl)

-- ---- two programs, the same engine

module _ (player : ℕ) (p q : Program) (alike : Alike player p q) where
  same_code : (e : ℕ) → code p e ≡ code q e
  same_code = code_same player p q alike

  choose_same : (a : Arrival) (l : List Arrival) → choose p a l ≡ choose q a l
  choose_same a [] = refl
  choose_same a (b ∷ l) = rw (alike.priorities, choose_same b l, choose_same a l)

  advance_same : (t : ℕ) (waiting : List Arrival) (a : Arrival) (c : ℕ) (d : Values) → advance p t waiting a c d ≡ advance q t waiting a c d
  advance_same t waiting a c d = rw (same_code a.event)

  stepped_same : (t : ℕ) (waiting : List Arrival) (r : Running) (d : Values) → stepped p t waiting r d ≡ stepped q t waiting r d
  stepped_same t [] rest d = refl
  stepped_same t (b ∷ l) rest d = rw (choose_same b l)
  stepped_same t [] (busy a n) d = advance_same t [] a n d
  stepped_same t (b ∷ l) (busy a n) d = rw (choose_same b l, same_code a.event, alike.priorities)

  pub copy_back_same : (r : Running) → in_copy_back p r ≡ in_copy_back q r
  copy_back_same rest = refl
  copy_back_same (busy a c) = rw (same_code a.event)

  act_same : (c : Call) (w : Engine) → act p c w ≡ act q c w
  unfolding act
  act_same (arrive e who) (engine t waiting r d) = rw (alike.priorities, alike.senders)
  act_same step (engine t waiting r d) = stepped_same t waiting r d
  act_same (board i who) (engine t waiting r d) = rw (copy_back_same r, alike.sizes, alike.viewers)

  -- ---- so two engines of the same control go on alike

  module _ (c : Call) (w v : Engine) (same : control w ≡ control v) where
    together : act p c (control w) ≡ act q c (control v)
    together = act_same c (control w) ∙ ap (act q c) same

    pub act_control : control (act p c w).after ≡ control (act q c v).after
    act_control = (act_alone p c w).1 ∙ ap (λ (x : Outcome). control x.after) together ∙ sym (act_alone q c v).1

    pub act_hushed : hushed c (act p c w).answer ≡ hushed c (act q c v).answer
    act_hushed = (act_alone p c w).0 ∙ ap (λ (x : Outcome). hushed c x.answer) together ∙ sym (act_alone q c v).0

  -- ---- the counts of steps

  longest_same : longest p ≡ longest q
  unfolding longest
  longest_same = λ z. foldr max 0 (up_to (events_same player p q alike z) (λ e. length (same_code e z)))

  steps_of_same : (l : List Arrival) → steps_of p l ≡ steps_of q l
  unfolding steps_of
  steps_of_same l = λ z. sum ◌+◌ 0 (map (λ (a : Arrival). length (same_code a.event z) + 1) l)

  forecast_control : (w : Engine) → forecast p w ≡ forecast q (control w)
  forecast_control (engine t waiting rest d) = steps_of_same waiting
  forecast_control (engine t waiting (busy a c) d) = rw longest_same

  forecast_alone : (w : Engine) → forecast q w ≡ forecast q (control w)
  forecast_alone (engine t waiting rest d) = refl
  forecast_alone (engine t waiting (busy a c) d) = refl

  pub forecast_same : (w v : Engine) → control w ≡ control v → forecast p w ≡ forecast q v
  forecast_same w v h = forecast_control w ∙ ap (forecast q) h ∙ sym (forecast_alone v)

  queue_control : (w : Engine) → in_queue w ≡ in_queue (control w)
  queue_control (engine t waiting r d) = refl

  pub count_same : (w v : Engine) → control w ≡ control v → count_in p w ≡ count_in q v
  count_same w v h =
      let same : in_queue w ≡ in_queue v = queue_control w ∙ ap in_queue h ∙ sym (queue_control v) in
      rw (same, longest_same)

  copy_back_control : (w : Engine) → copy_back_in p w ≡ copy_back_in q (control w)
  copy_back_control (engine t waiting r d) = copy_back_same r

  copy_back_alone : (w : Engine) → copy_back_in q w ≡ copy_back_in q (control w)
  copy_back_alone (engine t waiting r d) = refl

  pub copy_back_both : (w v : Engine) → control w ≡ control v → copy_back_in p w ≡ copy_back_in q v
  copy_back_both w v h = copy_back_control w ∙ ap (copy_back_in q) h ∙ sym (copy_back_alone v)
