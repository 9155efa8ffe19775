use Rattle.source_terms.proofs.Writing.{wrote_on}
use Rattle.source_describe.proofs.write_named.Goals as goal

pub returns : goal.returns
returns c = wrote_on c.write.ensures c.write-2.ensures
