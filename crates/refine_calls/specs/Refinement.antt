-- Calls and changes of sheets on the bytes, and when their answers and the round agree with the model engine's. 01
-- "Whole runs"; 02, M-112: "Demand 3's lists may hold such changes, the model engine making them too".
use Rattle.std.specs.Prelude.{ℕ, zero, suc, ◌+◌, ◌-◌, ◌/◌, ◌%◌, ◌≤◌, not, ◌≡◌, length, get_or, ltb, leb, eqb}
use Rattle.std.proofs.Math.Option.{none, some}
use mathlib.Core.List.{List, [], ◌∷◌, map, Permᴰ}
use Rattle.lib_base.specs.Basics.{pick}
use Rattle.lib_word.specs.Word.{get, words, pile}
use Rattle.spec_language.specs.Syntax.{Program}
use Rattle.spec_language.specs.Dependence.{size}
use Rattle.spec_language.specs.Answers as kinds
use Rattle.spec_execution.specs.Execution.{Values}
use Rattle.spec_model.specs.Model.{Arrival, arrival, Running, rest, busy, engine, Call, arrive, step, board, Answer}
use Rattle.spec_model.specs.Model.{refused, told_taken_in, shows, idle, ran, started, preempted, committed, State, state}
use Rattle.spec_model.specs.Model.{Reply, says, carried_over}
use Rattle.format_layout.specs.Layout.{event_of, player_of, taken, waiting_count, running_flag, running_word, running_number}
use Rattle.format_layout.specs.Layout.{store_start, scratch_start, deferred_start, stack_start}
use Rattle.format_layout.specs.Layout.{position, depth, mark_word, number_at, word_at}
use Rattle.format_layout.specs.Round.{CallResult}
use Rattle.run_arrive.specs.Arrivals.{arrive_on}
use Rattle.run_board.specs.Board.{board_on}
use Rattle.run_mend.specs.Mending.{mend_on}
use Rattle.run_dispatch.specs.Said.{said, number_unit, event_unit, player_unit}
use Rattle.run_advance.specs.Mark.{over_mark}
use Rattle.run_step.specs.Machine.{step_on}

-- an answer as the number that the call gives
abbrev pub coded : Answer → ℕ
coded (refused n) = n
coded told_taken_in = 0
coded (shows v) = kinds.told v
coded idle = kinds.idle
coded ran = kinds.ran
coded (started a) = said kinds.started a.number a.event a.player
coded (committed a m) =
    pick m (over_mark + said kinds.committed a.number a.event a.player) (said kinds.committed a.number a.event a.player)
coded (preempted a) = said kinds.preempted a.number a.event a.player

-- a reply as the number that the call gives
abbrev pub coded_reply : Reply → ℕ
coded_reply (says a) = coded a
coded_reply carried_over = 0

-- ---- and back: the answer that a number names, by the kind of call

-- the mark at 2^56 is no part of the arrival's number
abbrev pub arrival_in : ℕ → Arrival
arrival_in v = arrival (v / number_unit % 1099511627776) (v / event_unit % 256) (v / player_unit % 16)

abbrev pub step_answer : ℕ → Answer
step_answer v =
    pick (eqb v 14) (refused 14)
    (pick (eqb v kinds.idle) idle
    (pick (eqb v kinds.ran) ran
    (pick (eqb (v % 16) kinds.started) (started (arrival_in v))
    (pick (eqb (v % 16) kinds.committed) (committed (arrival_in v) (leb over_mark v)) (preempted (arrival_in v))))))

abbrev pub decoded : Call → ℕ → Answer
decoded (arrive e who) v = pick (eqb v 0) told_taken_in (refused v)
decoded step v = step_answer v
decoded (board i who) v = pick (ltb v 4294967296) (refused v) (shows (v - 4294967296))

-- 02, M-107: "only the host is told M-104's mark: .. a further call turns that into the others', without the mark"
abbrev pub told_on : ℕ → ℕ
told_on v = v % over_mark

-- ---- calls on a table's and a round's bytes

unfoldable pub call_on : List ℕ → Call → List ℕ → CallResult
call_on t (arrive e who) l = arrive_on t l e who
call_on t step l = step_on t l
call_on t (board i who) l = (board_on t l i who, l)

-- ---- turns on the table in force and the round, and lists of them

-- a call on the table in force, or a change to the table whose bytes are these
pub data ByteTurn : Type 0 where
  calls : Call → ByteTurn
  mends : List ℕ → ByteTurn

-- the table in force, and the round
pub record Bytes : Type 0 where
  pub table : List ℕ
  pub round : List ℕ

abbrev pub bytes : List ℕ → List ℕ → Bytes
bytes t l = record { table = t; round = l }

-- the number answered, and the bytes after it: a change that answers 0 puts its table in force
pub record ByteOutcome : Type 0 where
  pub number : ℕ
  pub after : Bytes

unfoldable pub turn_on_bytes : ByteTurn → Bytes → ByteOutcome
turn_on_bytes (calls c) b = record { number = (call_on b.table c b.round).0; after = bytes b.table (call_on b.table c b.round).1 }
turn_on_bytes (mends u) b = record {
  number = (mend_on b.table u b.round).0;
  after = bytes (pick (eqb (mend_on b.table u b.round).0 0) u b.table) (mend_on b.table u b.round).1;
}

-- the numbers of a list of turns, and the bytes after it
unfoldable pub numbers_on : List ByteTurn → Bytes → List ℕ
numbers_on [] b = []
numbers_on (x ∷ xs) b = (turn_on_bytes x b).number ∷ numbers_on xs (turn_on_bytes x b).after

unfoldable pub bytes_after : List ByteTurn → Bytes → Bytes
bytes_after [] b = b
bytes_after (x ∷ xs) b = bytes_after xs (turn_on_bytes x b).after

-- calls alone, on one table: what a replay makes
unfoldable pub answers_on : List ℕ → List Call → List ℕ → List ℕ
answers_on t cs l = numbers_on (map calls cs) (bytes t l)

unfoldable pub round_after : List ℕ → List Call → List ℕ → List ℕ
round_after t cs l = (bytes_after (map calls cs) (bytes t l)).round

-- ---- what the round's bytes say

-- arrival n, w being the word of its event and player
abbrev pub arrival_of : ℕ → ℕ → Arrival
arrival_of n w = arrival n (event_of w) (player_of w)

-- the waiting arrivals of the first n slots
unfoldable pub slots : List ℕ → ℕ → List Arrival
slots l zero = []
slots l (suc n) = arrival_of (number_at l n) (word_at l n) ∷ slots l n

abbrev pub running_in : List ℕ → Running
running_in l = pick (eqb (running_flag l) 0) rest (busy (arrival_of (running_number l) (running_word l)) (position l))

-- "as read from the round's bytes, board, hand (in whatever order it is kept), number taken in, running arrival with
-- its count, stack, and scratch and places as far as the model engine has filled them"; the board is the store, the
-- hand the waiting and the running one, the places hold the deferred values. And the mark that 02, M-104 adds: any word
-- but 0 is one
pub record ViewOf (p : Program) (l : List ℕ) (n : ℕ) (waiting : List Arrival) (r : Running) (d : Values) : Type 0 where
  pub number : taken l ≡ n
  pub queue : Permᴰ (slots l (waiting_count l)) waiting
  pub running : running_in l ≡ r
  pub store : words l store_start (size p) ≡ d.store
  pub stack : pile l stack_start (depth l) ≡ d.stack
  pub scratch : (i v : ℕ) → get_or d.scratch i none ≡ some v → get l (scratch_start + i) ≡ v
  pub deferred : (i v : ℕ) → get_or d.deferred i none ≡ some v → get l (deferred_start + i) ≡ v
  pub mark : not (eqb (mark_word l) 0) ≡ d.mark

-- only the round's 2,048 bytes may change
pub record Kept (l m : List ℕ) : Type 0 where
  pub as_long : length m ≡ length l
  pub beyond : (j : ℕ) → 2048 ≤ j → get_or m j 0 ≡ get_or l j 0

-- ---- the turns of the model engine that they are: a change is to the table that compile leaves for an accepted
-- program, whose passives' code fits into 4,096 instructions

-- the round agrees with the engine, under the program in force
abbrev pub ViewIn : List ℕ → State → Type 0
ViewIn l (state p (engine n waiting r d)) = ViewOf p l n waiting r d
