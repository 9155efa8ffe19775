-- The header in front of what stands there.
use Rattle.lib_base.proofs.Prelude.{◌∙◌}
use Rattle.sheet_write.proofs.Laws.{enclosed}
use Rattle.sheet_write.proofs.enclose.Goals as goal

pub returns : goal.returns
returns c = c.put_header.ensures ∙ enclosed c.args.tag c.args.n c.args.end c.args.out.now c.requires.n_bound c.if-out-end.false
