use Rattle.source_terms.proofs.Writing.{wrote_on}
use Rattle.source_describe.proofs.write_handler.Goals as goal

pub returns : goal.returns
returns c =
    rw (← c.byte_from-event.ensures, ← c.byte_from-phase.ensures, ← c.onward-body.ensures.s_value)
    (wrote_on c.write_named.ensures (wrote_on c.put_phase.ensures c.put_term.ensures))
