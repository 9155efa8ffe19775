use Rattle.lib_base.proofs.Prelude.{refl}
use Rattle.source_names.specs.Bytes.{same_bytes}
use Rattle.source_names.proofs.Places.{one_more}
use Rattle.source_names.proofs.alike.Goals as goal

pub loop-k-init : goal.loop-k-init
unfolding same_bytes
loop-k-init c = refl

pub loop-k-preserved : goal.loop-k-preserved
loop-k-preserved c = one_more _ _ _ c.loop-k.k c.loop-k.invariant
