-- What the closure gave at each index.
use Rattle.lib_base.proofs.Prelude.{rules}
use Rattle.source_walk.proofs.own_heads.Goals as goal

pub returns : goal.returns
returns c =
    let items = c.from_fn.ensures.items in
    record { long = items.long; own = λ i z l. let made = (items.at i 0 l).2 in search rules }
