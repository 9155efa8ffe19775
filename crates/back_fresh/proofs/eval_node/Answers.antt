use Rattle.back_fresh.proofs.EvaluateLaws.{arity_some}
use Rattle.back_fresh.proofs.eval_node.Goals as goal

pub apply_top-requires : goal.apply_top-requires
apply_top-requires c = (rw c.arity_of.ensures.value (arity_some _), c.requires)
