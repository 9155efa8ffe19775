-- What step does to the round's bytes, for all bytes (layout: crate format_layout): which of what crates run_dispatch
-- and run_advance do. 01 "Handlers and steps", "Why a call was turned down". A function that branches takes plain
-- numbers; one that reads calls it.
use Rattle.std.specs.Prelude.{ℕ, ◌-◌, Bool, List, ltb, eqb}
use Rattle.lib_base.specs.Basics.{pick}
use Rattle.spec_language.specs.Refusals.{foreign}
use Rattle.spec_language.specs.Answers as kinds
use Rattle.format_layout.specs.Layout.{event_word, waiting_count, running_flag, running_event, position, event_at}
use Rattle.format_layout.specs.Foreign.{ours}
use Rattle.run_queue.specs.Queue.{best}
use Rattle.format_layout.specs.Round.{CallResult}
use Rattle.run_board.specs.Masking.{is_masked}
use Rattle.run_dispatch.specs.Dispatch.{start_at, preempt_at}
use Rattle.run_advance.specs.Advance.{advance_on}

-- slot b is the next, of priority q; one of priority p runs, masked or not
unfoldable pub meet : List ℕ → List ℕ → ℕ → Bool → ℕ → ℕ → CallResult
meet t l b m p q = pick m (advance_on t l) (pick (ltb p q) (preempt_at l b) (advance_on t l))

unfoldable pub contest_on : List ℕ → List ℕ → ℕ → CallResult
contest_on t l b =
    meet t l b (is_masked (event_word t (running_event l) 2) (event_word t (running_event l) 3) (position l)) (event_word t (running_event l) 0)
    (event_word t (event_at l b) 0)

-- n wait, and one runs; or none runs
unfoldable pub while_running : List ℕ → List ℕ → ℕ → CallResult
while_running t l n = pick (eqb n 0) (advance_on t l) (contest_on t l (best t l n))

unfoldable pub while_resting : List ℕ → List ℕ → ℕ → CallResult
while_resting t l n = pick (eqb n 0) (kinds.idle, l) (start_at l (best t l n) (n - 1))

unfoldable pub step_with : List ℕ → List ℕ → ℕ → ℕ → CallResult
step_with t l n f = pick (eqb f 0) (while_resting t l n) (while_running t l n)

unfoldable pub step_in : List ℕ → List ℕ → CallResult
step_in t l = step_with t l (waiting_count l) (running_flag l)

unfoldable pub step_on : List ℕ → List ℕ → CallResult
step_on t l = pick (ours t l) (step_in t l) (foreign, l)
