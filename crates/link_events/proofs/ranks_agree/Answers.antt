use Rattle.link_events.proofs.Laws.{agree_first, agree_second, agree_not, agree_on, agree_end}
use Rattle.lib_base.proofs.Prelude.{arith}
use Rattle.link_events.proofs.ranks_agree.Goals as goal

pub returns-then-a-eq0 : goal.returns-then-a-eq0
returns-then-a-eq0 c = agree_first c.loop.invariant c.loop-test.true c.width-a.ensures.value c.width-b.ensures.value c.if-a-eq0.true

pub returns-then-b-eq0 : goal.returns-then-b-eq0
returns-then-b-eq0 c =
    agree_second c.loop.invariant c.loop-test.true c.width-a.ensures.value c.width-b.ensures.value c.if-a-eq0.false c.if-b-eq0.true

pub returns-then-rank : goal.returns-then-rank
returns-then-rank c =
    agree_not c.loop.invariant c.loop-test.true c.width-a.ensures.value c.width-b.ensures.value c.if-a-eq0.false c.if-b-eq0.false
    c.rank.ensures c.rank-in-loop.ensures c.if-rank.true

pub loop-preserved : goal.loop-preserved
loop-preserved c =
    agree_on c.loop.invariant c.loop-test.true c.width-a.ensures.value c.width-b.ensures.value c.if-a-eq0.false c.if-b-eq0.false
    c.rank.ensures c.rank-in-loop.ensures c.if-rank.false c.width-a.ensures.result_in_bounds c.width-b.ensures.result_in_bounds

pub returns : goal.returns
returns c = agree_end c.loop.invariant (omega arith)
