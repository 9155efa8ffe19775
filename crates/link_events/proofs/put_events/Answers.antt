use Rattle.link_events.proofs.Laws.{turn_start, turn_on, turn_end}
use Rattle.lib_base.proofs.Prelude.{arith}
use Rattle.link_events.proofs.put_events.Goals as goal

pub loop-init : goal.loop-init
loop-init c = turn_start _ _ _ c.requires

pub loop-preserved : goal.loop-preserved
loop-preserved c =
    let a = c.width-a.ensures in
    let b = c.width-b.ensures in
    let put = c.put_pair-k.ensures in
    turn_on c.loop.invariant c.loop-test.true a.value a.result_in_bounds b.value b.result_in_bounds put.bytes_written put.upper_bound c.put_pair-k.auto.out

pub returns-clause-bytes_written : goal.returns-clause-bytes_written
returns-clause-bytes_written c = (turn_end c.loop.invariant (omega arith)).0

pub returns-clause-upper_bound : goal.returns-clause-upper_bound
returns-clause-upper_bound c = (turn_end c.loop.invariant (omega arith)).1
