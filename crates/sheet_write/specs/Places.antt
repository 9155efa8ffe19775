-- Places in a buffer that a field is still written at: what follows it has a place that a number holds.
use Rattle.std.specs.Prelude.{ℕ}

abbrev pub place_limit : ℕ
place_limit = 2147483648

-- a row's head is longer
abbrev pub row_place_limit : ℕ
row_place_limit = 1073741824
