use Rattle.lib_base.proofs.Prelude.{◌∙◌}
use Rattle.ask_leak.proofs.LeakLaws.{leaking_on_law}
use Rattle.ask_leak.proofs.leak_in.Goals as goal

pub returns : goal.returns
returns c = c.leak_by.ensures ∙ leaking_on_law _ _ _ _ _ c.hidden_of.ensures
