-- A joined sheet before it is judged, at the most: two sheets and the events of both.
use Rattle.std.specs.Prelude.{ℕ}

abbrev pub join_room : ℕ
join_room = 16544
