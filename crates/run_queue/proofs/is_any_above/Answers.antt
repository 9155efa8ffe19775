-- The test of the slots from the last on finds what the definition finds.
use Rattle.lib_base.proofs.Prelude.{◌∙◌, sym, arith}
use Rattle.run_queue.proofs.Above.{is_above, not_above, none_above}
use Rattle.run_queue.proofs.is_any_above.Goals as goal

pub returns-then-p-priority_at : goal.returns-then-p-priority_at
returns-then-p-priority_at c =
    is_above _ _ _ c.loop-i.i c.priority_at.result (omega (arith, c.loop-i-test.true)) c.priority_at.ensures c.if-p-priority_at.true
    ∙ sym c.loop-i.invariant

pub loop-i-preserved : goal.loop-i-preserved
loop-i-preserved c =
    c.loop-i.invariant
    ∙ not_above _ _ _ c.loop-i.i c.priority_at.result (omega (arith, c.loop-i-test.true)) c.priority_at.ensures
    (omega (arith, c.if-p-priority_at.false))

pub returns : goal.returns
returns c = sym (c.loop-i.invariant ∙ none_above _ _ _ c.loop-i.i (omega (arith, c.loop-i-test.false)))
