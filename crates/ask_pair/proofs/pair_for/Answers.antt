use Rattle.ask_pair.proofs.PairLaws.{declared, second_not, first_not}
use Rattle.ask_pair.proofs.pair_for.Goals as goal

pub returns-then-second-ev : goal.returns-then-second-ev
returns-then-second-ev c = declared c.args.d.now _ _ _ _ _ c.if-first-ev.true c.if-second-ev.true c.pair_in.ensures

pub returns-else-second-ev : goal.returns-else-second-ev
returns-else-second-ev c = second_not c.args.d.now _ _ _ _ c.if-first-ev.true c.if-second-ev.false

pub returns-else-first-ev : goal.returns-else-first-ev
returns-else-first-ev c = first_not c.args.d.now _ _ _ _ c.if-first-ev.false
