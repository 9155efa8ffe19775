-- What the functions that write tokens promise.
use Rattle.std.specs.Prelude.{◌+◌, ◌≤◌, ◌≡◌, List, length}
use Rattle.source_language.specs.Tokens.{SheetToken}
use Rattle.source_pen.specs.declared.Pen.{Pen}
use Rattle.source_pen.specs.Written.{written_after, TokensPenned}

-- from one pen to the other, which has the same buffer, these tokens were written, where the text stays within 65,536
-- bytes, as that of every accepted sheet does; of another it is only said that the pen stops
pub record TokensPut (pen after : Pen) (ts : List SheetToken) : Type 0 where
  pub same : after.out.ghost_name ≡ pen.out.ghost_name
  pub as_long : length after.out.now ≡ length pen.out.now
  pub stops : after.at ≤ 65548
  pub tokens : pen.at + length (written_after pen.last ts) ≤ 65536 → TokensPenned pen after ts
