use Rattle.source_terms.proofs.Writing.{wrote_on}
use Rattle.source_describe.proofs.put_passive.Goals as goal

pub returns : goal.returns
returns c =
    rw (← c.after_field.ensures.s_value)
    (wrote_on c.write_named.ensures (wrote_on c.write.ensures (wrote_on c.put_term.ensures c.write_viewers.ensures)))
