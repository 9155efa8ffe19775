-- The bytes that are looked over at once.
use Rattle.std.specs.Prelude.{ℕ}

abbrev pub block_bytes : ℕ
block_bytes = 16
