use Rattle.source_terms.proofs.Writing.{wrote_on}
use Rattle.source_describe.proofs.put_state.Goals as goal

pub returns : goal.returns
returns c = wrote_on c.write_named.ensures (wrote_on c.write.ensures c.put_active.ensures)
