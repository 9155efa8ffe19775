use Rattle.source_terms.proofs.Writing.{wrote_on}
use Rattle.source_describe.proofs.put_signal.Goals as goal

pub returns : goal.returns
returns c =
    rw (← c.byte_from-rank.ensures)
    (wrote_on c.write_named.ensures (wrote_on c.write.ensures (wrote_on c.write-2.ensures c.put_senders.ensures)))
