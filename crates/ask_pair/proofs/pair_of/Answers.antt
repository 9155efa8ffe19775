use Rattle.ask_pair.proofs.PairLaws.{by_sets}
use Rattle.ask_pair.proofs.pair_of.Goals as goal

pub returns : goal.returns
returns c =
    by_sets c.args.writes.now c.args.named.now c.args.strict.now _ _ _ _ _ _ _ c.union_of.ensures
    c.cross-met.ensures c.cross-shared.ensures c.pair_by.ensures
