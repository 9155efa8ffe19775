use Rattle.ask_agree.proofs.ConflictLaws.{pair_alike, pair_is}
use Rattle.ask_agree.proofs.clash_with.Goals as goal

pub returns-then-d-e : goal.returns-then-d-e
returns-then-d-e c = pair_alike _ _ _ _ _ _ c.if-d-e.true

pub returns : goal.returns
returns c = pair_is _ _ c.args.writes.now c.args.named.now _ _ _ _ c.if-d-e.false c.clash_of.ensures c.least_in.ensures
