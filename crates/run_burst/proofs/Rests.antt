-- On a sound round a step is idle where nothing runs and nothing waits, and there alone: every other answer has a kind,
-- its remainder by 16. By cases along the definition of a step.
use Rattle.lib_base.proofs.Prelude.{ℕ, ◌+◌, ◌-◌, ◌*◌, ◌%◌, ◌/◌, ◌≡◌, true, false, ◌≢◌, List, eqb, ltb, ne_eqb, eq-eqb}
use Rattle.lib_base.proofs.Prelude.{arith}
use Rattle.lib_base.proofs.Tools.{by_test}
use Rattle.lib_word.specs.Word.{get, put}
use Rattle.format_layout.specs.Layout.{event_word, waiting_count, running_flag, running_word, running_event, running_number, position, depth, mark_word, event_at}
use Rattle.format_layout.specs.Foreign.{ours}
use Rattle.format_layout.specs.Round.{CallResult}
use Rattle.run_queue.specs.Queue.{best}
use Rattle.run_board.specs.Masking.{is_masked}
use Rattle.run_instruction.specs.Allowed.{may_run}
use Rattle.run_instruction.specs.Instruction.{perform}
use Rattle.run_dispatch.specs.Dispatch.{start_at, preempt_at}
use Rattle.run_dispatch.specs.Said.{said}
use Rattle.run_advance.specs.Advance.{commit_said, count_instruction, execute_on, execute_at, advance_on}
use Rattle.run_step.specs.Machine.{meet, contest_on, while_running, while_resting, step_with, step_in, step_on}
use Rattle.run_step.specs.Sound.{RoundSound}
use Rattle.run_step.proofs.Steps.{step_rest}

-- an outcome that is not idle
abbrev Busy : CallResult → Type 0
Busy o = o.0 ≢ 0

start_busy : (l : List ℕ) (b m : ℕ) → Busy (start_at l b m)
unfolding start_at said
start_busy l b m e = omega arith

preempt_busy : (l : List ℕ) (b : ℕ) → Busy (preempt_at l b)
unfolding preempt_at said
preempt_busy l b e = omega arith

count_busy : (l : List ℕ) (c hand n len : ℕ) → Busy (count_instruction l c hand n len)
unfolding count_instruction commit_said said
count_busy l c hand n len =
    by_test Busy (ltb (c + 1) len) (λ _ e. omega arith)
    (λ _. by_test (λ (a : ℕ). Busy (a, put l 2 0)) (eqb (mark_word l) 0) (λ _ e. omega arith) (λ _ e. omega arith))

advance_busy : (t l : List ℕ) → Busy (advance_on t l)
unfolding advance_on execute_at execute_on
advance_busy t l =
    let k = event_word t (running_event l) 1 + position l in
    let a = get t (512 + k * 2) in
    by_test Busy (may_run (a / 256) (a % 256) (depth l))
    (λ _. count_busy (perform l (a / 256) (a % 256) (get t (513 + k * 2)) (depth l)) (position l) (running_word l) (running_number l) (event_word t (running_event l) 2))
    (λ _ e. omega arith)

running_busy : (t l : List ℕ) (n : ℕ) → Busy (while_running t l n)
unfolding while_running contest_on meet
running_busy t l n =
    let b = best t l n in
    let e = running_event l in
    by_test Busy (eqb n 0) (λ _. advance_busy t l)
    (λ _. by_test Busy (is_masked (event_word t e 2) (event_word t e 3) (position l)) (λ _. advance_busy t l)
    (λ _. by_test Busy (ltb (event_word t e 0) (event_word t (event_at l b) 0)) (λ _. preempt_busy l b) (λ _. advance_busy t l)))

step_busy : (t l : List ℕ) → running_flag l ≢ 0 → Busy (step_on t l)
unfolding step_on step_in step_with
step_busy t l f = by_test Busy (ours t l) (λ _. rw (ne_eqb (running_flag l) 0 f) (running_busy t l (waiting_count l))) (λ _ e. omega arith)

module _ {t l : List ℕ} (s : RoundSound t l) where
  pub one_runs : running_flag l ≢ 0 → eqb (step_on t l).0 0 ≡ false
  one_runs f = ne_eqb (step_on t l).0 0 (step_busy t l f)

  pub one_waits : running_flag l ≡ 0 → waiting_count l ≢ 0 → eqb (step_on t l).0 0 ≡ false
  unfolding while_resting
  one_waits f w = rw (step_rest t l s f, ne_eqb (waiting_count l) 0 w) (ne_eqb (start_at l (best t l (waiting_count l)) (waiting_count l - 1)).0 0 (start_busy l (best t l (waiting_count l)) (waiting_count l - 1)))

  pub none_in_hand : running_flag l ≡ 0 → waiting_count l ≡ 0 → eqb (step_on t l).0 0 ≡ true
  unfolding while_resting
  none_in_hand f w = rw (step_rest t l s f, eq-eqb (waiting_count l) 0 w)
