-- How long tables and rounds are and where their parts begin, by the names that contracts use; src/table.rt and
-- src/round.rt have them for the code.
use Rattle.std.specs.Prelude.{ℕ}

-- a table in bytes and in words
abbrev pub table_bytes : ℕ
table_bytes = 34816

abbrev pub table_length : ℕ
table_length = 8704

-- where its parts begin, in words: the events' records, of so many words each, values, viewers, kinds, instructions
abbrev pub event_records : ℕ
event_records = 8

abbrev pub record_length : ℕ
record_length = 4

abbrev pub table_values : ℕ
table_values = 136

abbrev pub table_viewers : ℕ
table_viewers = 200

abbrev pub table_kinds : ℕ
table_kinds = 296

abbrev pub code_begin : ℕ
code_begin = 512

-- the last words from which a word for each behaviour, and an event's record, still fit
abbrev pub last_column : ℕ
last_column = 8640

abbrev pub last_record : ℕ
last_record = 8700

-- a round in bytes and in words
abbrev pub round_bytes : ℕ
round_bytes = 2048

abbrev pub round_words : ℕ
round_words = 512

-- the word that has the depth of the evaluation stack
abbrev pub depth_word : ℕ
depth_word = 6

-- at most so many in the queue (01: hand), and so many beside one that runs
abbrev pub queue_limit : ℕ
queue_limit = 64

abbrev pub beside_running : ℕ
beside_running = 63

-- at most so many arrivals are taken in
abbrev pub arrival_limit : ℕ
arrival_limit = 1000000
