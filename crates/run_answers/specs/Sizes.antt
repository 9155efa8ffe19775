-- An answer in a buffer of answers takes so many bytes, and so many have places that a number holds.
use Rattle.std.specs.Prelude.{ℕ}

abbrev pub answer_bytes : ℕ
answer_bytes = 8

abbrev pub answer_limit : ℕ
answer_limit = 2305843009213693951
