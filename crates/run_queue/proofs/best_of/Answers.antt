-- Slot 0 begins, each later slot is held against the best so far, and all are done at n.
use Rattle.lib_base.proofs.Prelude.{◌≡◌, arith}
use Rattle.run_queue.proofs.Better.{begun, taken, stays}
use Rattle.run_queue.proofs.best_of.Goals as goal
use Rattle.run_queue.proofs.best_of.Goals.{then-is_ahead, else-is_ahead}

pub loop-i-init : goal.loop-i-init
loop-i-init c = begun _ _ _ _ c.priority_at-best_priority.ensures c.get_word-best_number.ensures

pub loop-i-preserved : goal.loop-i-preserved
loop-i-preserved c =
    let u = c.loop-i.invariant in
    let p = c.priority_at-priority.ensures in
    let k = c.get_word-number.ensures in
    elim c.if-is_ahead.branch [
      | then-is_ahead w ↦ rw (w.best-is, w.best_priority-is, w.best_number-is) (taken u p k c.is_ahead.ensures w.if-is_ahead.true)
      | else-is_ahead w ↦ rw (w.best-is, w.best_priority-is, w.best_number-is) (stays u p k c.is_ahead.ensures w.if-is_ahead.false)
    ]

pub returns-clause-value : goal.returns-clause-value
returns-clause-value c = let e : c.loop-i.i ≡ c.args.n = omega arith in rw e at c.loop-i.invariant.same

pub returns-clause-upper_bound : goal.returns-clause-upper_bound
returns-clause-upper_bound c = omega (arith, c.loop-i.invariant.small, c.requires.3)
