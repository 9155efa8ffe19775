-- After the shift the header and the function stand before the moved bytes: the field.
use Rattle.lib_base.proofs.Prelude.{arith}
use Rattle.sheet_write.proofs.Laws.{head_written}
use Rattle.sheet_write.proofs.wrap_application.Goals as goal

pub returns : goal.returns
returns c =
    rw (c.put_header.ensures, c.shift.ensures)
    (head_written c.args.start c.args.end c.args.f c.args.out.now c.requires.start_le_end (omega arith))
