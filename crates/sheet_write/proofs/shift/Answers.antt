-- The library copies the bytes of `shifted`.
use Rattle.lib_base.proofs.Prelude.{◌∙◌}
use Rattle.sheet_write.proofs.Laws.{shift_is}
use Rattle.sheet_write.proofs.shift.Goals as goal

pub returns : goal.returns
returns c = c.copy_within.ensures.after ∙ shift_is c.args.start c.args.end c.args.out.now c.requires.start_le_end
