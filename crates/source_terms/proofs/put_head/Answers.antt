use Rattle.source_terms.proofs.Writing.{wrote_on}
use Rattle.source_terms.proofs.put_head.Goals as goal

pub returns-in-14 : goal.returns-in-14
returns-in-14 c = rw c.in-14.is (wrote_on (rw c.in-14.is at c.write-in-14.ensures) c.write-in-14-2.ensures)
