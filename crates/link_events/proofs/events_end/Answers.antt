use Rattle.link_events.proofs.Laws.{passed_on, passed_end}
use Rattle.lib_base.proofs.Prelude.{arith}
use Rattle.link_events.proofs.events_end.Goals as goal

pub loop-preserved : goal.loop-preserved
loop-preserved c = passed_on c.loop.invariant c.loop-test.true c.width-i.ensures.value c.width-i.ensures.result_in_bounds

pub returns-clause-value : goal.returns-clause-value
returns-clause-value c = (passed_end c.loop.invariant (omega arith)).0
