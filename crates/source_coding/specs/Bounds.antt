-- The limits of a text by the names that contracts use, as src/limits.rt has them for the code.
use Rattle.std.specs.Prelude.{ℕ}

abbrev pub text_bytes : ℕ
text_bytes = 65536

-- the names of parameters and behaviours
abbrev pub name_limit : ℕ
name_limit = 72

-- the numbers of behaviours' first cells, and last how many cells there are
abbrev pub first_cells : ℕ
first_cells = 65

-- a mark for each event, and one more
abbrev pub handled_length : ℕ
handled_length = 33

-- the largest number after a `-`; larger ones are all told from it by one more
abbrev pub largest_negated : ℕ
largest_negated = 2147483648

abbrev pub past_negated : ℕ
past_negated = 2147483649

-- a byte of text becomes at most so many of the sheet
abbrev pub growth : ℕ
growth = 16
