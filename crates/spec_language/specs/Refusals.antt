-- The numbers of refusals with 01's words. 01 "Why a call was turned down"; 02, M-103, M-105, M-107, M-111, M-112;
-- M-106: "Number 2 never occurs again."
use Rattle.std.specs.Prelude.{ℕ}

abbrev pub short_table : ℕ  -- short table: compile's table has under 34,816 bytes
short_table = 1

abbrev pub long_program : ℕ  -- long sheet: over 8,192 bytes
long_program = 3

abbrev pub torn : ℕ  -- torn: under three bytes where a field is due, or a length past its enclosing end
torn = 4

abbrev pub wrong_tag : ℕ  -- wrong tag: a tag not allowed there; an event after a behaviour
wrong_tag = 5

abbrev pub wrong_length : ℕ  -- wrong length: fixed length differs; a due byte is missing; bytes left over
wrong_length = 6

abbrev pub crowded : ℕ  -- crowded: 33rd event, 65th behaviour
crowded = 7

abbrev pub off_scale : ℕ  -- off the scale: rank, event, phase or function byte not listed or not declared
off_scale = 8

abbrev pub too_deep : ℕ  -- too deep: an expression at nesting 17
too_deep = 9

abbrev pub doubled : ℕ  -- doubled: second handler for an event in one behaviour
doubled = 10

abbrev pub unknown_name : ℕ  -- unknown name: no such behaviour in the sheet
unknown_name = 11

abbrev pub cycle : ℕ  -- circle: some event, or no event, has one
cycle = 12

abbrev pub overlong : ℕ  -- overlong: over 4,096 instructions
overlong = 13

abbrev pub foreign : ℕ  -- foreign: table or round is not one of ours
foreign = 14

abbrev pub undeclared_event : ℕ  -- no such event: not declared
undeclared_event = 15

abbrev pub full_queue : ℕ  -- full hand: 64 in hand
full_queue = 16

abbrev pub spent : ℕ  -- spent: 1,000,000 already taken in
spent = 17

abbrev pub no_behaviour : ℕ  -- no such behaviour: number not in the sheet
no_behaviour = 18

abbrev pub settling : ℕ  -- settling: board read during copy-back
settling = 19

abbrev pub no_parameters : ℕ  -- 02, M-103: the sheet uses a parameter and fewer than 32 bytes are lent
no_parameters = 20

abbrev pub no_formula : ℕ  -- 02, M-105: "the text is outside this grammar or over 1,024 bytes"
no_formula = 21

abbrev pub large_number : ℕ  -- 02, M-105: "a number exceeds 2,147,483,647"
large_number = 22

abbrev pub short_field : ℕ  -- 02, M-105: "the buffer is too short for the field"
short_field = 23

abbrev pub no_player : ℕ  -- 02, M-107: "the player is above 7"
no_player = 24

abbrev pub no_right : ℕ  -- 02, M-107: "the right is missing"
no_right = 25

abbrev pub unlike_ranks : ℕ  -- 02, M-111: "the sheets give one event different ranks"
unlike_ranks = 26

abbrev pub short_join : ℕ  -- 02, M-111: "the buffer is too short"
short_join = 27

abbrev pub undeclared_in_hand : ℕ  -- 02, M-112: "the hand holds an event that the new sheet doesn't declare"
undeclared_in_hand = 28

abbrev pub missing_entries : ℕ  -- a delivery: entries before this one are not taken in yet
missing_entries = 43

abbrev pub taken_before : ℕ  -- a delivery: this entry, or one in its place, is taken in already
taken_before = 44
