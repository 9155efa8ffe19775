use Rattle.lib_base.proofs.Pick.{code}
use Rattle.draft_form.proofs.DraftLaws.{take_used}
use Rattle.back_fresh.specs.Evaluate.{entry_value}
use Rattle.back_fresh.proofs.eval_entry.Goals as goal

pub returns : goal.returns
unfolding entry_value
returns c = rw (c.eval_nodes.ensures, ← take_used) (search code depth 12)
