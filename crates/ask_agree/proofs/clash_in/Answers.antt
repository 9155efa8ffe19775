use Rattle.lib_base.proofs.Prelude.{◌∙◌}
use Rattle.ask_agree.proofs.ConflictLaws.{conflict_on_law}
use Rattle.ask_agree.proofs.clash_in.Goals as goal

pub returns : goal.returns
returns c = c.clash_by.ensures ∙ conflict_on_law _ _ _ c.fill_writes.new.writes c.fill_named.new.named c.fill_writes.ensures c.fill_named.ensures
