use Rattle.lib_base.proofs.Prelude.{arith}
use Rattle.check_shortest.proofs.SearchLaws.{turn_event}
use Rattle.check_shortest.proofs.shortest.Goals as goal

pub best_under-best-requires : goal.best_under-best-requires
best_under-best-requires c =
    let e = turn_event _ _ c.loop-t-test.true c.event_of_turn.ensures in
    (omega (arith, e), c.requires.1, c.requires.2 _ e)
