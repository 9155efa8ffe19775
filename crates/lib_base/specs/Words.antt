-- Numbers of bytes and words, by the names that contracts use.
use Rattle.std.specs.Prelude.{ℕ}

-- the bytes of a word
abbrev pub word_bytes : ℕ
word_bytes = 4

-- the values of a byte, of two bytes, of a word
abbrev pub byte_values : ℕ
byte_values = 256

abbrev pub half_values : ℕ
half_values = 65536

abbrev pub word_values : ℕ
word_values = 4294967296

abbrev pub highest_byte : ℕ
highest_byte = 255

-- a set of small numbers is a number of so many bits
abbrev pub set_bits : ℕ
set_bits = 64

-- numbers are written in this base
abbrev pub decimal_base : ℕ
decimal_base = 10
