use Rattle.lib_base.proofs.Prelude.{ne_eqb}
use Rattle.source_terms.proofs.Writing.{wrote_none}
use Rattle.source_describe.proofs.put_bit.Goals as goal

pub returns-else-m-eq1 : goal.returns-else-m-eq1
returns-else-m-eq1 c = rw (ne_eqb _ 1 c.if-m-eq1.false) (wrote_none _ c.requires.0)
