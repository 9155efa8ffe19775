use Rattle.lib_base.proofs.Prelude.{arith}
use Rattle.ask_pair.proofs.PairLaws.{pair_is}
use Rattle.ask_pair.proofs.pair_in.Goals as goal

pub passive_rows-requires : goal.passive_rows-requires
passive_rows-requires c = let p = c.requires in (p.0, p.1, p.4 _ (omega arith))

pub returns : goal.returns
returns c =
    let p = c.requires in
    pair_is _ _ _ _ _ _ _ c.passive_rows.new.rows c.fill_writes.new.writes c.fill_named.new.named
    c.fill_strict.new.strict p.2 p.3 c.all_of-all.ensures c.passive_rows.ensures c.fill_writes.ensures
    c.fill_named.ensures c.fill_strict.ensures c.pair_of.ensures
