-- Demand 1 holds: each order is that of the definition's branches, test by test, each test deciding the condition that
-- it stands for (Foreign, Passives). One that waits outranks the running event just where the test over all of them
-- says so, by induction on how many.
use Rattle.lib_base.proofs.Prelude.{ℕ, ◌≤◌, ◌<◌, ◌+◌, ◌-◌, suc, zero, ◌≡◌, refl, ◌∙◌, sym, subst, true, false, Bool}
use Rattle.lib_base.proofs.Prelude.{false≢true, true≢false, not, ◌≢◌, ◌⊎◌, inr, List, [], ◌∷◌, length, replicate, eqb}
use Rattle.lib_base.proofs.Prelude.{ltb, ne_eqb, eqb-true, ltb-false, eqb-false, ltb-true, not-true, arith}
use Rattle.lib_base.proofs.Tools.{by_test, through, neither, split}
use Rattle.lib_word.specs.Word.{get}
use Rattle.spec_language.specs.Refusals.{foreign}
use Rattle.spec_language.specs.Rights.{may}
use Rattle.format_layout.specs.Layout.{event_word, event_count, behaviour_count, senders_at, viewers_at, taken, waiting_count, running_flag, running_number, running_word, running_event, position, number_at, event_at}
use Rattle.format_layout.specs.Foreign.{table_fits, ours}
use Rattle.run_queue.specs.Queue.{ahead, either_slot, better, best, any_above}
use Rattle.format_layout.specs.Round.{CallResult}
use Rattle.run_start.specs.Start.{start_on}
use Rattle.run_arrive.specs.Arrivals.{queue_full, arrive_with, arrive_known, arrive_in, arrive_on}
use Rattle.run_board.specs.Board.{copy_back_on, board_with, board_known, board_in, board_on}
use Rattle.run_board.specs.Masking.{is_masked, copy_back_under_way}
use Rattle.run_dispatch.specs.Dispatch.{start_at, preempt_at}
use Rattle.run_advance.specs.Advance.{commit_said, count_instruction, execute_on, execute_at, advance_on}
use Rattle.run_step.specs.Machine.{while_resting, step_with, step_in, step_on}
use Rattle.run_step.specs.Sound.{masked_now, is_outranked, is_preempted}
use Rattle.run_step.proofs.Rule.{runs}
use Rattle.run_forecast.specs.Forecast.{bound, forecast_with, forecast_in, forecast_on}
use Rattle.run_carry.specs.Carry.{carry_on}
use Rattle.run_mend.specs.Mending.{hand_known, verdict, mend_with, mend_after, mend_in, mend_on}
use Rattle.back_compile.specs.Statements.{FirstUnmet}
use Rattle.back_compile.proofs.AcceptedExactly.{refused_unchanged}
use Rattle.back_compile.proofs.Orders.{need, need_not, need_true, need_false, need_most, need_less, compile_order}
use Rattle.engine.proofs.Refused as refusals
use Rattle.engine.proofs.Beyond as beyond
use Rattle.claims.specs.Demand1.{OurTable, OurRound, arrive_order, board_order, GivesWay, RunsOne, instruction_fits, mend_order, StepGives, is_idle, has_run, has_committed, has_committed_over, has_started, has_broken_in, forecast_count, Demand1}
use Rattle.claims.proofs.Foreign.{our_table, table_fits_law, our_round, round_fits_law, room_says, room_is, declared_says, declared_is}
use Rattle.claims.proofs.Passives.{passives_pass, passives_say, passives_are, carry_answers}
use Rattle.claims.proofs.PreviewOrder.{preview_order}
use Rattle.run_start.proofs.Fresh.{start_fresh}

module _ {X Y : Type 0} where
  need_table : (t : List ℕ) → (table_fits t ≡ false → X) → (table_fits t ≡ true → Y) → ((OurTable t → ⊥) × X) ⊎ (OurTable t × Y)
  need_table t = need (table_fits t) (our_table t) (table_fits_law t)

  pub need_ours : (t l : List ℕ) → (ours t l ≡ false → X) → (ours t l ≡ true → Y) → ((OurRound t l → ⊥) × X) ⊎ (OurRound t l × Y)
  need_ours t l = need (ours t l) (our_round t l) (round_fits_law t l)

start_order : (t l : List ℕ) → FirstUnmet ((OurTable t, foreign) ∷ (2048 ≤ length l, foreign) ∷ []) (λ r. r ≡ 0) (start_on t l).0
unfolding start_on
start_order t l = need_table t (λ a. rw a) (λ a. need_most 2048 (length l) (λ b. rw (a, b)) (λ b. rw (a, b)))

arrive_order_law : (t l : List ℕ) (e who : ℕ) → FirstUnmet (arrive_order t l e who) (λ r. r ≡ 0) (arrive_on t l e who).0
unfolding arrive_on arrive_in arrive_known arrive_with
arrive_order_law t l e who =
    need_ours t l (λ a. rw a)
    (λ a. need_less who 8 (λ b. rw (a, b))
    (λ b. need_less e (event_count t) (λ c. rw (a, b, c))
    (λ c. need_true (may (senders_at t e) who) (λ d. rw (a, b, c, d))
    (λ d. need_not (queue_full (waiting_count l) (running_flag l)) (room_says l) (room_is l) (λ f. rw (a, b, c, d, f))
    (λ f. need_less (taken l) 1000000 (λ g. rw (a, b, c, d, f, g)) (λ g. rw (a, b, c, d, f, g)))))))

board_order_law : (t l : List ℕ) (i who : ℕ) → FirstUnmet (board_order t l i who) (λ r. r ≡ 4294967296 + get l (136 + i)) (board_on t l i who)
unfolding board_on board_in board_known board_with
board_order_law t l i who =
    need_ours t l (λ a. rw a)
    (λ a. need_less who 8 (λ b. rw (a, b))
    (λ b. need_less i (behaviour_count t) (λ c. rw (a, b, c))
    (λ c. need_true (may (viewers_at t i) who) (λ d. rw (a, b, c, d))
    (λ d. need_false (copy_back_under_way t l) (λ f. rw (a, b, c, d, f)) (λ f. rw (a, b, c, d, f))))))

mend_order_law : (old t l : List ℕ) → FirstUnmet (mend_order old t l) (λ r. r ≡ 0) (mend_on old t l).0
unfolding mend_on mend_in mend_after mend_with verdict copy_back_on
mend_order_law old t l =
    let carried = carry_answers old t l in
    need_ours old l (λ a. rw a)
    (λ a. need_table t (λ b. rw (a, b))
    (λ b. need (passives_pass t) (passives_say t) (passives_are t)
    (λ c. let q : (carry_on old t l (replicate 2048 0)).0 ≡ foreign = carried ∙ rw c in rw (a, b, q))
    (λ c. let q : (carry_on old t l (replicate 2048 0)).0 ≡ 0 = carried ∙ rw c in
    need_false (copy_back_under_way old l) (λ d. rw (a, b, q, d))
    (λ d. need (hand_known t l) (declared_says t l) (declared_is t l) (λ f. rw (a, b, q, d, f)) (λ f. rw (a, b, q, d, f))))))

forecast_order : (t l : List ℕ) → FirstUnmet ((OurRound t l, foreign) ∷ []) (λ r. r ≡ 4294967296 + forecast_count t l) (forecast_on t l)
unfolding forecast_on forecast_in forecast_with bound
forecast_order t l = need_ours t l (λ a. rw a) (λ a. rw a (split (eqb (running_flag l) 0) (λ e. rw e) (λ e. rw e)))

-- ---- steps

-- one of the first n that wait has a rank above r
abbrev SomeAbove : List ℕ → List ℕ → ℕ → ℕ → Type 0
SomeAbove t l r n = (i : ℕ) × (i < n) × (r < event_word t (event_at l i) 0)

above_says : (t l : List ℕ) (r n : ℕ) → any_above t l r n ≡ true → SomeAbove t l r n
unfolding any_above
above_says t l r zero h = absurd (false≢true h)
above_says t l r (suc n) h =
    split (ltb r (event_word t (event_at l n) 0))
    (λ e. (n, omega arith, ltb-true r (event_word t (event_at l n) 0) e))
    (λ e. let s = above_says t l r n (rw e at h) in (s.0, omega (arith, s.1), s.2))

none_above : (t l : List ℕ) (r n : ℕ) → any_above t l r n ≡ false → SomeAbove t l r n → ⊥
unfolding any_above
none_above t l r zero h s = omega (arith, s.1)
none_above t l r (suc n) h s =
    let q = neither (ltb r (event_word t (event_at l n) 0)) (any_above t l r n) h in
    split (eqb s.0 n)
    (λ e. let z : event_word t (event_at l s.0) 0 ≡ event_word t (event_at l n) 0 = rw (eqb-true s.0 n e) in
    omega (arith, z, ltb-false r (event_word t (event_at l n) 0) q.0, s.2))
    (λ e. none_above t l r n q.1 (s.0, omega (arith, s.1, eqb-false s.0 n e), s.2))

-- the best of some that wait is one of them
abbrev ahead_of : List ℕ → List ℕ → ℕ → Bool
ahead_of t l n = ahead (event_word t (event_at l n) 0) (number_at l n) (event_word t (event_at l (best t l n)) 0) (number_at l (best t l n))

best_waits : (t l : List ℕ) (n : ℕ) → best t l (suc n) ≤ n
unfolding best better either_slot
best_waits t l zero = by_test (λ (i : ℕ). i ≤ 0) (ahead_of t l 0) (λ _. omega arith) (λ _. omega arith)
best_waits t l (suc n) = by_test (λ (i : ℕ). i ≤ suc n) (ahead_of t l (suc n)) (λ _. omega arith) (λ _. omega (arith, best_waits t l n))

best_below : (t l : List ℕ) (n : ℕ) → n ≢ 0 → best t l n < n
best_below t l zero h = absurd (h refl)
best_below t l (suc n) h = omega (arith, best_waits t l n)

-- an answer of a step on l that is not refused
abbrev Answered : List ℕ → CallResult → Type 0
Answered l o = StepGives l o.0

start_answered : (t l : List ℕ) → running_flag l ≡ 0 → waiting_count l ≢ 0 → Answered l (start_at l (best t l (waiting_count l)) (waiting_count l - 1))
unfolding start_at
start_answered t l f n = has_started (best t l (waiting_count l)) f (best_below t l (waiting_count l) n)

preempt_answered : (t l : List ℕ) → running_flag l ≢ 0 → waiting_count l ≢ 0 → Answered l (preempt_at l (best t l (waiting_count l)))
unfolding preempt_at
preempt_answered t l f n = has_broken_in (best t l (waiting_count l)) f (best_below t l (waiting_count l) n)

module _ (t l : List ℕ) where
  -- the running event is preempted
  abbrev way : Bool
  way = is_preempted t l (is_outranked t l)

  abbrev masked : Bool
  masked = is_masked (event_word t (running_event l) 2) (event_word t (running_event l) 3) (position l)

  abbrev above : Bool
  above = any_above t l (event_word t (running_event l) 0) (waiting_count l)

  gives_way : running_flag l ≢ 0 → way ≡ true → GivesWay t l
  unfolding is_preempted masked_now is_outranked
  gives_way f h =
      let q = through above (not masked) (rw (ne_eqb (running_flag l) 0 f) at h) in
      (not-true masked q.1, above_says t l (event_word t (running_event l) 0) (waiting_count l) q.0)

  goes_first : running_flag l ≢ 0 → way ≡ false → GivesWay t l → ⊥
  unfolding is_preempted masked_now is_outranked
  goes_first f h g =
      split above (λ e. true≢false (rw (ne_eqb (running_flag l) 0 f, e, g.0) at h))
      (λ e. none_above t l (event_word t (running_event l) 0) (waiting_count l) e g.1)

  advance_refused : instruction_fits t l ≡ false → (advance_on t l).0 ≡ foreign
  unfolding advance_on execute_at execute_on
  advance_refused e = rw e

  commit_answered : (w : ℕ) → running_flag l ≢ 0 → StepGives l (commit_said (running_number l) (running_word l) w)
  unfolding commit_said
  commit_answered w f = by_test (StepGives l) (eqb w 0) (λ _. has_committed f) (λ _. has_committed_over f)

  advance_answered : running_flag l ≢ 0 → instruction_fits t l ≡ true → Answered l (advance_on t l)
  unfolding advance_on execute_at execute_on count_instruction
  advance_answered f e = rw e (by_test (Answered l) (ltb (position l + 1) (event_word t (running_event l) 2)) (λ _. has_run f) (λ _. commit_answered _ f))

  rest_answered : eqb (running_flag l) 0 ≡ true → Answered l (step_in t l)
  unfolding step_in step_with while_resting
  rest_answered e =
      let f = eqb-true (running_flag l) 0 e in
      rw e (by_test (Answered l) (eqb (waiting_count l) 0) (λ n. is_idle f (eqb-true (waiting_count l) 0 n))
      (λ n. start_answered t l f (eqb-false (waiting_count l) 0 n)))

  -- what outranks the running event waits
  some_wait : running_flag l ≢ 0 → way ≡ true → waiting_count l ≢ 0
  some_wait f o z = let i = (gives_way f o).1 in omega (arith, i.1)

  -- what a step would run may run
  abbrev StepFits : Type 0
  StepFits = RunsOne t l → instruction_fits t l ≡ true

  -- the running event goes on: its instruction decides
  advance_order : running_flag l ≢ 0 → way ≡ false
      → ((StepFits → ⊥) × ((step_in t l).0 ≡ foreign)) ⊎ (StepFits × Answered l (step_in t l))
  advance_order f o =
      let q : advance_on t l ≡ step_in t l = sym (runs t l f ∙ rw o) in
      need (instruction_fits t l) (λ e _. e) (λ h. h (f, goes_first f o))
      (λ e. subst (λ (r : CallResult). r.0 ≡ foreign) q (advance_refused e))
      (λ e. subst (Answered l) q (advance_answered f e))

  -- it gives way: what preempts it starts
  preempted_answered : running_flag l ≢ 0 → way ≡ true → Answered l (step_in t l)
  preempted_answered f o =
      let q : preempt_at l (best t l (waiting_count l)) ≡ step_in t l = sym (runs t l f ∙ rw o) in
      subst (Answered l) q (preempt_answered t l f (some_wait f o))

  step_order : FirstUnmet ((OurRound t l, foreign) ∷ (StepFits, foreign) ∷ []) (λ r. StepGives l r) (step_on t l).0
  unfolding step_on
  step_order =
      need_ours t l (λ a. rw a)
      (λ a. rw a (split (eqb (running_flag l) 0)
      (λ b. inr (λ h. absurd (h.0 (eqb-true (running_flag l) 0 b)), rest_answered b))
      (λ b. let f = eqb-false (running_flag l) 0 b in
      split way
      (λ o. inr (λ h. absurd (h.1 (gives_way f o)), preempted_answered f o))
      (λ o. advance_order f o))))

pub demand_1 : Demand1
demand_1 = record {
  compile_order = compile_order;
  start_order = start_order;
  arrive_order_law = arrive_order_law;
  step_order = step_order;
  board_order_law = board_order_law;
  mend_order_law = mend_order_law;
  forecast_order = forecast_order;
  preview_order = preview_order;
  compile_unchanged = refused_unchanged;
  start_unchanged = refusals.start_refused;
  arrive_unchanged = refusals.arrive_refused;
  step_unchanged = refusals.step_refused;
  mend_unchanged = refusals.mend_refused;
  start_fresh = start_fresh;
  compile_beyond = beyond.compile_beyond;
  start_beyond = beyond.start_beyond;
  arrive_beyond = beyond.arrive_beyond;
  step_beyond = beyond.step_beyond;
  mend_beyond = beyond.mend_beyond;
}
