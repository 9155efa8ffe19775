use Rattle.lib_base.proofs.Prelude.{◌∙◌, sym, or-false}
use Rattle.check_reads.proofs.add_writer.Goals as goal

pub returns-then-is_handler : goal.returns-then-is_handler
returns-then-is_handler c h = rw (sym c.is_handler.ensures ∙ c.if-is_handler.true) (c.insert.ensures h)

pub returns : goal.returns
returns c h = rw (sym c.is_handler.ensures ∙ c.if-is_handler.false) (sym (or-false _))
