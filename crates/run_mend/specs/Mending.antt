-- What mend does to the round's bytes, for all bytes (layout: crate format_layout). 02, M-112: a round is carried to a
-- newly compiled table. The answer is 0, or the refusal's number. A function that branches takes plain numbers; one
-- that reads calls it.
use Rattle.std.specs.Prelude.{ℕ, zero, suc, ◌+◌, Bool, true, false, List, replicate, ltb, eqb}
use Rattle.lib_base.specs.Basics.{pick}
use Rattle.lib_word.specs.Word.{put}
use Rattle.spec_language.specs.Refusals.{foreign, settling, undeclared_in_hand}
use Rattle.format_layout.specs.Layout.{event_count, waiting_count, running_flag, running_event, running_word, running_number, event_at}
use Rattle.format_layout.specs.Foreign.{table_fits, ours}
use Rattle.run_queue.specs.Queue.{put_slot}
use Rattle.format_layout.specs.Round.{CallResult}
use Rattle.run_carry.specs.Carry.{carry_on, store_shown}
use Rattle.run_board.specs.Board.{copy_back_on}

-- ---- the hand

-- the first n waiting have events below `known`
unfoldable pub waiting_known : List ℕ → ℕ → ℕ → Bool
waiting_known l known zero = true
waiting_known l known (suc n) = pick (ltb (event_at l n) known) (waiting_known l known n) false

-- waiting: those that wait are known; f: one of event e runs
unfoldable pub known_with : Bool → ℕ → ℕ → ℕ → Bool
known_with waiting f e known = pick waiting (pick (eqb f 0) true (ltb e known)) false

unfoldable pub hand_known : List ℕ → List ℕ → Bool
hand_known t l = known_with (waiting_known l (event_count t) (waiting_count l)) (running_flag l) (running_event l) (event_count t)

-- "the running event goes back to the hand": n wait; f: arrival k runs, w being the word of its event and player
unfoldable pub back_in_hand : List ℕ → ℕ → ℕ → ℕ → ℕ → List ℕ
back_in_hand l n f k w = pick (eqb f 0) l (put (put_slot l n k w) 1 (n + 1))

-- nothing runs, its stack is empty and there is no mark
unfoldable pub rested : List ℕ → List ℕ
rested l = put (put (put l 2 0) 6 0) 7 0

-- ---- the call

-- "refused by 19, checked after 14, .. 28 .., checked after 19": a: what working the passives out answered; s: a
-- copy-back is under way; k: the hand's events are known
unfoldable pub verdict : ℕ → Bool → Bool → ℕ
verdict a s k = pick (eqb a 0) (pick s settling (pick k 0 undeclared_in_hand)) a

-- "The hand, its players, arrival numbers and the number taken in remain"; the values are those that m holds
unfoldable pub mended : List ℕ → List ℕ → List ℕ → List ℕ
mended t m l = store_shown t m (rested (back_in_hand l (waiting_count l) (running_flag l) (running_number l) (running_word l))) 64

unfoldable pub mend_with : List ℕ → List ℕ → List ℕ → ℕ → CallResult
mend_with t m l v = pick (eqb v 0) (0, mended t m l) (v, l)

-- r: the passives' answer, and the bytes that they were worked out in
unfoldable pub mend_after : List ℕ → List ℕ → List ℕ → CallResult → CallResult
mend_after old t l r = mend_with t r.1 l (verdict r.0 (copy_back_on old l) (hand_known t l))

unfoldable pub mend_in : List ℕ → List ℕ → List ℕ → CallResult
mend_in old t l = mend_after old t l (carry_on old t l (replicate 2048 0))

-- "14, which looks at the round with the old table, at the new table's length, counts and code, and at each instruction
-- that the passives need"
unfoldable pub mend_on : List ℕ → List ℕ → List ℕ → CallResult
mend_on old t l = pick (ours old l) (pick (table_fits t) (mend_in old t l) (foreign, l)) (foreign, l)
