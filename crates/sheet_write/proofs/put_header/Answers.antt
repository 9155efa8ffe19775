-- A tag and a half in a row.
use Rattle.lib_base.proofs.Prelude.{◌∙◌}
use Rattle.sheet_write.proofs.Laws.{header_written}
use Rattle.sheet_write.proofs.put_header.Goals as goal

pub returns : goal.returns
returns c = c.put_half.ensures ∙ header_written c.args.out.now c.args.n c.args.tag c.args.bytes
