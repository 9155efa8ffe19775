-- Lengths of what a pen writes.
use Rattle.std.specs.Prelude.{ℕ}

-- a sign, a name with its letter, and a token with the space before it, at the most
abbrev pub longest_sign : ℕ
longest_sign = 7

abbrev pub longest_name : ℕ
longest_name = 11

abbrev pub longest_token : ℕ
longest_token = 12

-- a text and one more token
abbrev pub pen_limit : ℕ
pen_limit = 65548

-- places that a token, or a spelling's byte, may be counted to
abbrev pub spelling_limit : ℕ
spelling_limit = 4294967300

abbrev pub token_limit : ℕ
token_limit = 4294967360
