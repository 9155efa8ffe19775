use Rattle.lib_base.proofs.Prelude.{ne_eqb, eq-eqb}
use Rattle.source_terms.proofs.Writing.{wrote_none, wrote_on}
use Rattle.source_describe.proofs.put_senders.Goals as goal

pub returns-then-byte_from-eq-BOTH : goal.returns-then-byte_from-eq-BOTH
returns-then-byte_from-eq-BOTH c =
    rw (← c.byte_from.ensures, eq-eqb _ 2 c.if-byte_from-eq-BOTH.true, ← c.byte_from-then-byte_from-eq-BOTH.ensures)
    (wrote_on c.write.ensures c.put_rights.ensures)

pub returns-else-byte_from-eq-BOTH : goal.returns-else-byte_from-eq-BOTH
returns-else-byte_from-eq-BOTH c = rw (← c.byte_from.ensures, ne_eqb _ 2 c.if-byte_from-eq-BOTH.false) (wrote_none _ c.requires.1)
