use Rattle.lib_base.proofs.Prelude.{◌∙◌, sym}
use Rattle.ask_leak.proofs.LeakLaws.{host_sees, seen_stays, hidden_joins}
use Rattle.ask_leak.proofs.add_hidden.Goals as goal

pub returns-then-player-eq0 : goal.returns-then-player-eq0
returns-then-player-eq0 c h = host_sees _ _ _ _ h c.if-player-eq0.true

pub returns-then-contains : goal.returns-then-contains
returns-then-contains c h = seen_stays _ _ _ _ h c.if-player-eq0.false (sym c.contains.ensures ∙ c.if-contains.true)

pub returns : goal.returns
returns c h = hidden_joins _ _ _ _ _ h c.if-player-eq0.false (sym c.contains.ensures ∙ c.if-contains.false) (c.insert.ensures h)
