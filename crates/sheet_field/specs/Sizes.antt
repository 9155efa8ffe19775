-- How many bytes a field and its parts take, by the names that contracts use, as src/sizes.rt has them for the code.
use Rattle.std.specs.Prelude.{ℕ}

-- a field whose value is a byte, a pair, a word
abbrev pub byte_field : ℕ
byte_field = 4

abbrev pub pair_field : ℕ
pair_field = 5

abbrev pub word_field : ℕ
word_field = 7

-- what stands before a handler's expression
abbrev pub handler_head : ℕ
handler_head = 5

-- the longest value that a field's two bytes of length can tell
abbrev pub longest_value : ℕ
longest_value = 65535
