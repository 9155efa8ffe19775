-- What is known of a table and a round that were judged once, and stays so from step to step: all that `ours` asks, but
-- that the running one has instructions left. (A damaged table may have an event of none; once it runs the next step is
-- refused.) And the two conditions of a step's first case.
use Rattle.std.specs.Prelude.{ℕ, ◌≤◌, ◌<◌, Bool, true, false, not, ◌≡◌, ◌≢◌, List, length, eqb}
use Rattle.lib_base.specs.Basics.{pick}
use Rattle.spec_language.specs.Refusals.{foreign}
use Rattle.spec_language.specs.Answers as kinds
use Rattle.format_layout.specs.Layout.{event_count, event_word, waiting_count, running_flag, running_word, running_event, position, depth, word_at}
use Rattle.format_layout.specs.Foreign.{table_fits, hand_fits}
use Rattle.run_queue.specs.Queue.{any_above}
use Rattle.run_board.specs.Masking.{is_masked}

pub record RoundSound (t l : List ℕ) : Type 0 where
  pub table : table_fits t ≡ true
  pub whole : 34816 ≤ length t
  pub long : 2048 ≤ length l
  pub few_waiting : waiting_count l ≤ 64
  pub shallow : depth l ≤ 64
  pub waiting_fit : (i : ℕ) → i < waiting_count l → hand_fits (event_count t) (word_at l i) ≡ true
  pub room : running_flag l ≢ 0 → waiting_count l ≤ 63
  pub running_fits_law : running_flag l ≢ 0 → hand_fits (event_count t) (running_word l) ≡ true

-- ---- the first case, by its two conditions: the running event is masked; something in the hand outranks it

unfoldable pub masked_now : List ℕ → List ℕ → Bool
masked_now t l = is_masked (event_word t (running_event l) 2) (event_word t (running_event l) 3) (position l)

unfoldable pub is_outranked : List ℕ → List ℕ → Bool
is_outranked t l = pick (eqb (running_flag l) 0) false (any_above t l (event_word t (running_event l) 0) (waiting_count l))

-- where o says whether it is outranked
unfoldable pub is_preempted : List ℕ → List ℕ → Bool → Bool
is_preempted t l o = pick o (not (masked_now t l)) false

-- whether it is after a step that answered a: an instruction leaves the hand, a refused step the round; after any other
-- step the best of the hand runs, or nothing does
unfoldable pub outranked_after : Bool → ℕ → Bool
outranked_after o a = pick (eqb a kinds.ran) o (pick (eqb a foreign) o false)
