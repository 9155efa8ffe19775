use Rattle.source_terms.proofs.Writing.{wrote_on}
use Rattle.source_describe.proofs.put_row.Goals as goal

pub returns : goal.returns
returns c =
    rw (← c.byte_from-cells.ensures, ← c.onward.ensures.s_value)
    (wrote_on c.write_named.ensures (wrote_on c.write.ensures (wrote_on c.write-2.ensures
    (wrote_on c.write-3.ensures (wrote_on c.write-4.ensures c.put_active.ensures)))))
