use Rattle.check_reads.proofs.NameLaws.{a_name, no_name, far_name}
use Rattle.check_reads.proofs.add_name.Goals as goal

pub returns-in_default : goal.returns-in_default
returns-in_default c j b = no_name _ j _ c.in_default.ensures

pub returns-then-j-lt-BEHAVIOURS : goal.returns-then-j-lt-BEHAVIOURS
returns-then-j-lt-BEHAVIOURS c j b = a_name _ j _ _ c.in-Some.ensures.0 (rw c.in-Some.ensures.1 at (c.insert.ensures j))

pub returns : goal.returns
returns c j b = far_name _ j _ (rw c.in-Some.ensures.1 at c.if-j-lt-BEHAVIOURS.false) b
