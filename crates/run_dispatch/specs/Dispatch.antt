-- The next starts or preempts, on the round's bytes, for all bytes (layout: crate format_layout). 01 "Handlers and
-- steps".
use Rattle.std.specs.Prelude.{ℕ, List}
use Rattle.lib_word.specs.Word.{put}
use Rattle.spec_language.specs.Answers as kinds
use Rattle.format_layout.specs.Layout.{running_word, running_number, number_at, word_at}
use Rattle.run_queue.specs.Queue.{put_slot}
use Rattle.format_layout.specs.Round.{CallResult}
use Rattle.run_dispatch.specs.Said.{said_of}

-- arrival n, of that word, runs, none of its instructions done, its stack empty, with no mark
unfoldable pub run_arrival : List ℕ → ℕ → ℕ → List ℕ
run_arrival l n w = put (put (put (put (put (put l 2 1) 3 w) 4 n) 5 0) 6 0) 7 0

-- slot b starts, and the last, m, moves into its place
unfoldable pub start_at : List ℕ → ℕ → ℕ → CallResult
start_at l b m = (said_of kinds.started (number_at l b) (word_at l b), run_arrival (put (put_slot l b (number_at l m) (word_at l m)) 1 m) (number_at l b) (word_at l b))

-- slot b starts, and the running one goes into its place under its old number
unfoldable pub preempt_at : List ℕ → ℕ → CallResult
preempt_at l b = (said_of kinds.preempted (number_at l b) (word_at l b), run_arrival (put_slot l b (running_number l) (running_word l)) (number_at l b) (word_at l b))
