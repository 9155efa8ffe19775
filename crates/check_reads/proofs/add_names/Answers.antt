use Rattle.lib_base.proofs.Prelude.{◌∙◌, sym, or-false}
use Rattle.check_reads.proofs.add_names.Goals as goal

pub returns-then-is_handler : goal.returns-then-is_handler
returns-then-is_handler c j b = rw (sym c.is_handler.ensures ∙ c.if-is_handler.true, ← c.names_in.ensures j b) (c.union_of.ensures j)

pub returns : goal.returns
returns c j b = rw (sym c.is_handler.ensures ∙ c.if-is_handler.false) (sym (or-false _))
