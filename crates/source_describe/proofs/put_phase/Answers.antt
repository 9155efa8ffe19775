use Rattle.source_terms.proofs.Writing.{wrote_on}
use Rattle.source_describe.proofs.Turns.{phase_later}
use Rattle.source_describe.proofs.put_phase.Goals as goal

pub returns-else-b-eq0 : goal.returns-else-b-eq0
returns-else-b-eq0 c = rw (phase_later _ c.if-b-eq0.false) (wrote_on c.write-else-b-eq0.ensures c.write-else-b-eq0-2.ensures)
