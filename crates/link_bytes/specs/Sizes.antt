-- The bytes of two sheets' behaviours at the most.
use Rattle.std.specs.Prelude.{ℕ}

abbrev pub most_written : ℕ
most_written = 16320
