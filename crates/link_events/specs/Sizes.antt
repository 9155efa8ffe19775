-- The bytes of 32 events of five bytes.
use Rattle.std.specs.Prelude.{ℕ}

abbrev pub events_room : ℕ
events_room = 160
