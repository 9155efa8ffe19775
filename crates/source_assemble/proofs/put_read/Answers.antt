-- A fault of a name is told, else the sheet is delivered.
use Rattle.source_assemble.proofs.put_read.Goals as goal

pub returns-in-Some : goal.returns-in-Some
returns-in-Some c = (c.requires.read_right.tells _ c.in-Some.is, c.requires.read_right.at_fault _ c.in-Some.is)

pub returns : goal.returns
returns c = rw (c.requires.read_right.sheet c.in_default.is) at c.put_result.ensures
