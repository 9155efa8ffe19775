-- The letter stands before the digits that end the buffer.
use Rattle.source_pen.proofs.Pens.{penned_as}
use Rattle.source_pen.proofs.Numbers.{part_name}
use Rattle.source_pen.proofs.Signs.{after_space}
use Rattle.source_pen.proofs.Pen.put_name.Goals as goal

pub returns-clause-bytes : goal.returns-clause-bytes
returns-clause-bytes c =
    let k = c.put_digits-first.ensures in
    penned_as c.apart.ensures.bytes
    (after_space _ (part_name _ _ _ _ c.put_digits-first.array_long k.room.0 k.room.1 k.digits))
