use Rattle.lib_base.proofs.Prelude.{le-leb}
use Rattle.source_terms.proofs.Writing.{wrote_none}
use Rattle.source_terms.proofs.put_unless.Goals as goal

pub returns-else-level-level_of : goal.returns-else-level-level_of
returns-else-level-level_of c = rw (← c.level_of.ensures, le-leb _ _ c.if-level-level_of.false) (wrote_none _ c.requires.0)
