-- What a row of steps leaves of a replay: the invariant of its loop.
use Rattle.std.specs.Prelude.{ℕ, ◌-◌, ◌≤◌, ◌≡◌, List, length}
use Rattle.refine_calls.specs.Refinement.{answers_on, round_after}
use Rattle.engine.specs.Replay.{calls_from, put_answers}

-- of n recorded calls those from i on, made on the round l and answered in a, come to the same as those from j on, made
-- on l' and answered in a': the calls between have been made
pub record RowOfSteps (t calls : List ℕ) (n i : ℕ) (l a : List ℕ) (j : ℕ) (l' a' : List ℕ) : Type 0 where
  pub rounds : round_after t (calls_from calls j (n - j)) l' ≡ round_after t (calls_from calls i (n - i)) l
  pub answers : put_answers a' j (answers_on t (calls_from calls j (n - j)) l') ≡ put_answers a i (answers_on t (calls_from calls i (n - i)) l)
  pub onward : i ≤ j
  pub within : j ≤ n
  pub as_long : length a' ≡ length a
  pub round_long : length l' ≡ length l
