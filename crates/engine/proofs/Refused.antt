-- Demand 1: a refused start, arrival, step or change of sheets leaves the round as it was. By the branches of each
-- call: an accepted step never answers `foreign`. (A refused compile: crate back_compile, AcceptedExactly. A board
-- reading has the round as `&[u8]`.)
use Rattle.lib_base.proofs.Prelude.{ℕ, ◌+◌, ◌-◌, ◌≡◌, refl, ◌≢◌, List, length, replicate, eqb, ltb, leb, arith}
use Rattle.lib_base.proofs.Tools.{by_test}
use Rattle.spec_language.specs.Refusals.{foreign}
use Rattle.spec_language.specs.Rights.{may}
use Rattle.format_layout.specs.Layout.{event_count, event_word, senders_at, taken, waiting_count, running_flag, running_word, running_event, running_number, position, depth, event_at}
use Rattle.format_layout.specs.Foreign.{table_fits, ours}
use Rattle.run_queue.specs.Queue.{best}
use Rattle.format_layout.specs.Round.{CallResult}
use Rattle.run_start.specs.Start.{start_on}
use Rattle.run_instruction.specs.Allowed.{may_run}
use Rattle.run_carry.specs.Carry.{carry_on}
use Rattle.run_arrive.specs.Arrivals.{queue_full, arrive_with, arrive_known, arrive_in, arrive_on}
use Rattle.run_board.specs.Board.{copy_back_on}
use Rattle.run_board.specs.Masking.{is_masked}
use Rattle.run_mend.specs.Mending.{hand_known, verdict, mend_with, mend_after, mend_in, mend_on}
use Rattle.run_dispatch.specs.Dispatch.{start_at, preempt_at}
use Rattle.run_dispatch.specs.Said.{said}
use Rattle.run_advance.specs.Advance.{commit_said, count_instruction, execute_on, execute_at, advance_on}
use Rattle.run_step.specs.Machine.{meet, contest_on, while_running, while_resting, step_with, step_in, step_on}

-- refused by a number that is not 0, with the round as it was
abbrev Kept : List ℕ → CallResult → Type 0
Kept l o = o.0 ≢ 0 → o.1 ≡ l

pub start_refused : (t l : List ℕ) → (start_on t l).0 ≢ 0 → (start_on t l).1 ≡ l
unfolding start_on
start_refused t l =
    by_test (Kept l) (table_fits t) (λ _. by_test (Kept l) (ltb (length l) 2048) (λ _ _. refl) (λ _ h. absurd (h refl))) (λ _ _. refl)

pub arrive_refused : (t l : List ℕ) (e who : ℕ) → (arrive_on t l e who).0 ≢ 0 → (arrive_on t l e who).1 ≡ l
unfolding arrive_on arrive_in arrive_known arrive_with
arrive_refused t l e who =
    by_test (Kept l) (ours t l)
    (λ _. by_test (Kept l) (leb 8 who) (λ _ _. refl)
    (λ _. by_test (Kept l) (leb (event_count t) e) (λ _ _. refl)
    (λ _. by_test (Kept l) (may (senders_at t e) who)
    (λ _. by_test (Kept l) (queue_full (waiting_count l) (running_flag l)) (λ _ _. refl)
    (λ _. by_test (Kept l) (leb 1000000 (taken l)) (λ _ _. refl) (λ _ h. absurd (h refl))))
    (λ _ _. refl))))
    (λ _ _. refl)

pub mend_refused : (old t l : List ℕ) → (mend_on old t l).0 ≢ 0 → (mend_on old t l).1 ≡ l
unfolding mend_on mend_in mend_after mend_with
mend_refused old t l =
    let a = (carry_on old t l (replicate 2048 0)).0 in
    by_test (Kept l) (ours old l)
    (λ _. by_test (Kept l) (table_fits t)
    (λ _. by_test (Kept l) (eqb (verdict a (copy_back_on old l) (hand_known t l)) 0) (λ _ h. absurd (h refl)) (λ _ _. refl))
    (λ _ _. refl))
    (λ _ _. refl)

-- ---- steps: `foreign` is the only refusal

abbrev Foreign : List ℕ → CallResult → Type 0
Foreign l o = o.0 ≡ foreign → o.1 ≡ l

commit_not : (n e w : ℕ) → commit_said n e w ≢ foreign
unfolding commit_said said
commit_not n e w = by_test (λ (x : ℕ). x ≢ foreign) (eqb w 0) (λ _. omega arith) (λ _. omega arith)

count_not : (l m : List ℕ) (c e n len : ℕ) → Foreign l (count_instruction m c e n len)
unfolding count_instruction
count_not l m c e n len = by_test (Foreign l) (ltb (c + 1) len) (λ _ h. absurd (omega arith)) (λ _ h. absurd (commit_not n e _ h))

advance_kept : (t l : List ℕ) → Foreign l (advance_on t l)
unfolding advance_on execute_at execute_on
advance_kept t l =
    by_test (Foreign l) (may_run _ _ (depth l)) (λ _. count_not l _ (position l) (running_word l) (running_number l) (event_word t (running_event l) 2)) (λ _ _. refl)

preempt_kept : (l : List ℕ) (b : ℕ) → Foreign l (preempt_at l b)
unfolding preempt_at said
preempt_kept l b h = absurd (omega arith)

start_kept : (l : List ℕ) (b m : ℕ) → Foreign l (start_at l b m)
unfolding start_at said
start_kept l b m h = absurd (omega arith)

contest_kept : (t l : List ℕ) (b : ℕ) → Foreign l (contest_on t l b)
unfolding contest_on meet
contest_kept t l b =
    by_test (Foreign l) (is_masked (event_word t (running_event l) 2) (event_word t (running_event l) 3) (position l)) (λ _. advance_kept t l)
    (λ _. by_test (Foreign l) (ltb (event_word t (running_event l) 0) (event_word t (event_at l b) 0)) (λ _. preempt_kept l b) (λ _. advance_kept t l))

pub step_refused : (t l : List ℕ) → (step_on t l).0 ≡ foreign → (step_on t l).1 ≡ l
unfolding step_on step_in step_with while_resting while_running
step_refused t l =
    by_test (Foreign l) (ours t l)
    (λ _. by_test (Foreign l) (eqb (running_flag l) 0)
    (λ _. by_test (Foreign l) (eqb (waiting_count l) 0) (λ _ h. absurd (omega arith)) (λ _. start_kept l (best t l (waiting_count l)) (waiting_count l - 1)))
    (λ _. by_test (Foreign l) (eqb (waiting_count l) 0) (λ _. advance_kept t l) (λ _. contest_kept t l (best t l (waiting_count l)))))
    (λ _ _. refl)
