-- The flags of a behaviour in the answer to a pair of events: all that tell of reads and writes.
use Rattle.std.specs.Prelude.{ℕ}

abbrev pub all_flags : ℕ
all_flags = 15
