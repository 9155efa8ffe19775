-- Nothing is said, and players are.
use Rattle.source_declarations.proofs.Players.{from_unsaid, from_said}
use Rattle.source_declarations.proofs.from_at.Goals as goal

pub returns-in_default-clause-rights_read : goal.returns-in_default-clause-rights_read
returns-in_default-clause-rights_read c = from_unsaid _ _ _ _ c.sign_due.ensures.sign_told c.in_default.is

pub returns-clause-rights_read : goal.returns-clause-rights_read
returns-clause-rights_read c = from_said _ _ _ _ _ _ _ c.sign_due.ensures.sign_told c.in-Ok.is c.players_at.ensures.rights_read
