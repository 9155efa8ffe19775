-- Another sign than `nobody`.
use Rattle.source_declarations.proofs.Players.{players_nobody}
use Rattle.source_declarations.proofs.players_at.Goals as goal

pub returns-else-c-ne-NOBODY-clause-rights_read : goal.returns-else-c-ne-NOBODY-clause-rights_read
returns-else-c-ne-NOBODY-clause-rights_read c = players_nobody _ _ _ _ _ _ c.token_at.ensures.token_at c.in-Sign.is c.if-c-ne-NOBODY.false
