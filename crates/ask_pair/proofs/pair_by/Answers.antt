use Rattle.ask_pair.proofs.PairLaws.{first_told, none_told, by_meet, by_share, by_none}
use Rattle.ask_pair.proofs.pair_by.Goals as goal

pub returns-in-Some : goal.returns-in-Some
returns-in-Some c = by_meet _ _ _ _ _ _ _ _ _ (first_told c.args.met c.args.n c.in-Some.i c.in-Some.ensures) c.pack.ensures

pub returns-in-Some-first_of : goal.returns-in-Some-first_of
returns-in-Some-first_of c =
    by_share _ _ _ _ _ _ _ _ _ (none_told c.args.met c.args.n c.in_default.ensures)
    (first_told c.args.shared c.args.n c.in-Some-first_of.i c.in-Some-first_of.ensures) c.pack-in-Some-first_of.ensures

pub returns : goal.returns
returns c =
    by_none _ _ _ _ _ _ _ (none_told c.args.met c.args.n c.in_default.ensures) (none_told c.args.shared c.args.n c.in_default-first_of.ensures)
