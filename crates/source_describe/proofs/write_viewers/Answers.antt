use Rattle.lib_base.proofs.Prelude.{ne_eqb, drop}
use Rattle.source_terms.proofs.Writing.{wrote_none, wrote_on, wrote_as}
use Rattle.source_describe.proofs.Turns.{viewers_there}
use Rattle.source_describe.proofs.write_viewers.Goals as goal

pub returns-then-byte_from-eq-VIEWERS : goal.returns-then-byte_from-eq-VIEWERS
returns-then-byte_from-eq-VIEWERS c =
    wrote_as (wrote_on c.write.ensures (wrote_on c.write-then-byte_from-eq-VIEWERS.ensures c.put_rights.ensures))
    (viewers_there (drop c.args.at c.args.s.now) c.byte_from.ensures c.if-byte_from-eq-VIEWERS.true c.byte_from-then-byte_from-eq-VIEWERS.ensures)

pub returns-else-byte_from-eq-VIEWERS : goal.returns-else-byte_from-eq-VIEWERS
returns-else-byte_from-eq-VIEWERS c = rw (← c.byte_from.ensures, ne_eqb _ 8 c.if-byte_from-eq-VIEWERS.false) (wrote_none _ c.requires.1)
