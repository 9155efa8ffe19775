-- An instruction that may not run stops the stretch, any other is one more; after the last it is at its end.
use Rattle.lib_base.proofs.Prelude.{◌≡◌, arith}
use Rattle.run_stretch.proofs.Late.{halt, turn, end}
use Rattle.run_stretch.proofs.run_from.Goals as goal

pub returns-then-after-clause-round_after : goal.returns-then-after-clause-round_after
returns-then-after-clause-round_after c =
    halt c.loop-done.invariant c.loop-done-test.true c.execute_at-after.ensures c.if-after.true

pub loop-done-preserved : goal.loop-done-preserved
loop-done-preserved c =
    turn c.loop-done.invariant c.loop-done-test.true c.execute_at-after.ensures c.if-after.false

pub returns-clause-round_after : goal.returns-clause-round_after
returns-clause-round_after c =
    let e : c.loop-done.done ≡ c.args.n = omega arith in
    rw e at (end c.loop-done.invariant (omega arith))
