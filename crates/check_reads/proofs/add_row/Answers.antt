use Rattle.lib_base.proofs.Prelude.{◌∙◌, sym, or-false}
use Rattle.check_reads.proofs.add_row.Goals as goal

pub returns-then-contains : goal.returns-then-contains
returns-then-contains c j = rw (sym c.contains.ensures ∙ c.if-contains.true) (c.union_of.ensures j)

pub returns : goal.returns
returns c j = rw (sym c.contains.ensures ∙ c.if-contains.false) (sym (or-false _))
