-- The digits that end the buffer are the number's.
use Rattle.source_pen.proofs.Pens.{penned_as}
use Rattle.source_pen.proofs.Numbers.{part_digits}
use Rattle.source_pen.proofs.Signs.{after_space}
use Rattle.source_pen.proofs.Pen.put_number.Goals as goal

pub returns-clause-bytes : goal.returns-clause-bytes
returns-clause-bytes c =
    penned_as c.apart.ensures.bytes (after_space _ (part_digits _ _ _ c.put_digits-i.array_long c.put_digits-i.ensures.digits))
