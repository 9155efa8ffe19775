-- The table and the round as words of four bytes, big-endian; which of them are foreign. 01 "Why a call was turned
-- down": foreign.
--
-- Table (34,816 bytes): word 0 counts the events, word 1 the behaviours; from word 8 on four words for each of 32
-- events: priority, start and length of its code, members of C; from word 136 on each behaviour's value in a fresh
-- round; from word 200 on who may see each behaviour, from word 264 on who may send each event, bit n for player n (02,
-- M-107); from word 296 on 1 for each passive, words 360 and 361 the start and length of a stretch of instructions that
-- works the passives out (02, M-112); from word 512 on two words for each of 4,096 instructions: operation * 256 +
-- slot, and a constant.
-- Round (2,048 bytes): word 0 number taken in, 1 waiting count, 2 whether one runs, 3 its event and player, 4 its
-- number, 5 its count of instructions done, 6 depth of the evaluation stack, 7 its mark: not 0 where one of its
-- applications ran over (02, M-104); from 8 on the queue, of each of 64 waiting its number, and its event and player;
-- from 136 the store (01: board), 200 scratch, 264 deferred values (01: places), 328 the evaluation stack, 64 words
-- each. Event and player are one word, player * 256 + event (02, M-107: "the hand .. keep[s] it").
use Rattle.std.specs.Prelude.{ℕ, ◌+◌, ◌*◌, ◌/◌, ◌%◌, List, ltb}
use Rattle.lib_base.specs.Basics.{pick}
use Rattle.lib_word.specs.Word.{get}

-- ---- the table

abbrev pub event_count : List ℕ → ℕ
event_count t = get t 0

abbrev pub behaviour_count : List ℕ → ℕ
behaviour_count t = get t 1

-- word k of event e's record; 0 past the last event that can be declared
unfoldable pub event_word : List ℕ → ℕ → ℕ → ℕ
event_word t e k = pick (ltb e 32) (get t (8 + e * 4 + k)) 0

-- of instruction k operation and slot, and its constant
abbrev pub operation_at : List ℕ → ℕ → ℕ
operation_at t k = get t (512 + k * 2)

abbrev pub constant_at : List ℕ → ℕ → ℕ
constant_at t k = get t (513 + k * 2)

-- who may see behaviour i, and who may send event e
abbrev pub viewers_at : List ℕ → ℕ → ℕ
viewers_at t i = get t (200 + i)

abbrev pub senders_at : List ℕ → ℕ → ℕ
senders_at t e = get t (264 + e)

abbrev pub passives_start : List ℕ → ℕ
passives_start t = get t 360

abbrev pub passives_length : List ℕ → ℕ
passives_length t = get t 361

-- ---- an arrival's event and player in one word

abbrev pub event_of : ℕ → ℕ
event_of w = w % 256

abbrev pub player_of : ℕ → ℕ
player_of w = w / 256

-- ---- the round: where board, scratch, places and stack begin

abbrev pub store_start : ℕ
store_start = 136

abbrev pub scratch_start : ℕ
scratch_start = 200

abbrev pub deferred_start : ℕ
deferred_start = 264

abbrev pub stack_start : ℕ
stack_start = 328

abbrev pub taken : List ℕ → ℕ
taken l = get l 0

abbrev pub waiting_count : List ℕ → ℕ
waiting_count l = get l 1

abbrev pub running_flag : List ℕ → ℕ
running_flag l = get l 2

abbrev pub running_word : List ℕ → ℕ
running_word l = get l 3

abbrev pub running_event : List ℕ → ℕ
running_event l = event_of (running_word l)

abbrev pub running_number : List ℕ → ℕ
running_number l = get l 4

abbrev pub position : List ℕ → ℕ
position l = get l 5

abbrev pub depth : List ℕ → ℕ
depth l = get l 6

abbrev pub mark_word : List ℕ → ℕ
mark_word l = get l 7

abbrev pub number_at : List ℕ → ℕ → ℕ
number_at l i = get l (8 + i * 2)

abbrev pub word_at : List ℕ → ℕ → ℕ
word_at l i = get l (9 + i * 2)

abbrev pub event_at : List ℕ → ℕ → ℕ
event_at l i = event_of (word_at l i)
