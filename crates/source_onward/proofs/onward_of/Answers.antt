-- An operator that goes on has a level.
use Rattle.lib_base.proofs.Prelude.{◌∙◌, sym, arith}
use Rattle.source_onward.proofs.After.{joins_some}
use Rattle.source_onward.proofs.onward_of.Goals as goal

pub overflow_sub-result : goal.overflow_sub-result
overflow_sub-result c = omega (arith, joins_some _ _ _ (sym c.joins.ensures ∙ c.if-joins.true))
