-- A step that answers idle, or is refused, leaves the round as it was: the answers of the others are of another kind,
-- and the kind is their remainder by 16. By cases along the definition of a step.
use Rattle.lib_base.proofs.Prelude.{ℕ, ◌+◌, ◌-◌, ◌*◌, ◌%◌, ◌/◌, ◌≡◌, refl, List, eqb, ltb, arith}
use Rattle.lib_base.proofs.Tools.{by_test}
use Rattle.lib_word.specs.Word.{get, put}
use Rattle.format_layout.specs.Layout.{event_word, waiting_count, running_flag, running_word, running_event, running_number, position, depth, mark_word, event_at}
use Rattle.format_layout.specs.Foreign.{ours}
use Rattle.format_layout.specs.Round.{CallResult}
use Rattle.run_queue.specs.Queue.{best}
use Rattle.run_board.specs.Masking.{is_masked}
use Rattle.run_instruction.specs.Allowed.{may_run}
use Rattle.run_instruction.specs.Instruction.{perform}
use Rattle.run_dispatch.specs.Dispatch.{start_at, preempt_at}
use Rattle.run_dispatch.specs.Said.{said}
use Rattle.run_advance.specs.Advance.{commit_said, count_instruction, execute_on, execute_at, advance_on}
use Rattle.run_step.specs.Machine.{meet, contest_on, while_running, while_resting, step_with, step_in, step_on}

-- an outcome that leaves l where its answer is idle or 14
abbrev Stays : List ℕ → CallResult → Type 0
Stays l o = (o.0 ≡ 0 → o.1 ≡ l) × (o.0 ≡ 14 → o.1 ≡ l)

start_stays : (l : List ℕ) (b m : ℕ) → Stays l (start_at l b m)
unfolding start_at said
start_stays l b m = (λ e. absurd (omega arith), λ e. absurd (omega arith))

preempt_stays : (l : List ℕ) (b : ℕ) → Stays l (preempt_at l b)
unfolding preempt_at said
preempt_stays l b = (λ e. absurd (omega arith), λ e. absurd (omega arith))

count_stays : (l l₀ : List ℕ) (c hand n len : ℕ) → Stays l₀ (count_instruction l c hand n len)
unfolding count_instruction commit_said said
count_stays l l₀ c hand n len =
    by_test (Stays l₀) (ltb (c + 1) len) (λ _. (λ e. absurd (omega arith), λ e. absurd (omega arith)))
    (λ _. by_test (λ (a : ℕ). Stays l₀ (a, put l 2 0)) (eqb (mark_word l) 0)
    (λ _. (λ e. absurd (omega arith), λ e. absurd (omega arith))) (λ _. (λ e. absurd (omega arith), λ e. absurd (omega arith))))

advance_stays : (t l : List ℕ) → Stays l (advance_on t l)
unfolding advance_on execute_at execute_on
advance_stays t l =
    let k = event_word t (running_event l) 1 + position l in
    let a = get t (512 + k * 2) in
    by_test (Stays l) (may_run (a / 256) (a % 256) (depth l))
    (λ _. count_stays (perform l (a / 256) (a % 256) (get t (513 + k * 2)) (depth l)) l (position l) (running_word l) (running_number l) (event_word t (running_event l) 2))
    (λ _. (λ e. refl, λ e. refl))

in_stays : (t l : List ℕ) → Stays l (step_in t l)
unfolding step_in step_with while_resting while_running contest_on meet
in_stays t l =
    let n = waiting_count l in
    let b = best t l n in
    let e = running_event l in
    by_test (Stays l) (eqb (running_flag l) 0)
    (λ _. by_test (Stays l) (eqb n 0) (λ _. (λ _. refl, λ _. refl)) (λ _. start_stays l b (n - 1)))
    (λ _. by_test (Stays l) (eqb n 0) (λ _. advance_stays t l)
    (λ _. by_test (Stays l) (is_masked (event_word t e 2) (event_word t e 3) (position l)) (λ _. advance_stays t l)
    (λ _. by_test (Stays l) (ltb (event_word t e 0) (event_word t (event_at l b) 0)) (λ _. preempt_stays l b) (λ _. advance_stays t l))))

step_stays : (t l : List ℕ) → Stays l (step_on t l)
unfolding step_on
step_stays t l = by_test (Stays l) (ours t l) (λ _. in_stays t l) (λ _. (λ _. refl, λ _. refl))

pub idle_stays : (t l : List ℕ) → (step_on t l).0 ≡ 0 → (step_on t l).1 ≡ l
idle_stays t l = (step_stays t l).0

pub refused_stays : (t l : List ℕ) → (step_on t l).0 ≡ 14 → (step_on t l).1 ≡ l
refused_stays t l = (step_stays t l).1
