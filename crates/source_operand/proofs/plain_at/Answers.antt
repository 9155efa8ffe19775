-- The leaf, up to the token behind it.
use Rattle.source_operand.proofs.Leaves.{read_within, settled_part}
use Rattle.source_operand.proofs.plain_at.Goals as goal

pub settled-requires : goal.settled-requires
settled-requires c = read_within _ _ _ _ c.leaf_at-r.result c.leaf_at-r.ensures.within

pub returns : goal.returns
returns c = settled_part _ _ _ _ _ _ _ _ c.leaf_at-r.result c.settled.result _ c.leaf_at-r.ensures c.settled.ensures
