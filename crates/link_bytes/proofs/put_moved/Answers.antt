use Rattle.lib_base.proofs.Prelude.{refl, arith}
use Rattle.sheet_walk.proofs.Places.{rest_is}
use Rattle.link_bytes.proofs.Laws.{moving_on, moving_end}
use Rattle.link_bytes.proofs.put_moved.Goals as goal

pub loop-b-preserved : goal.loop-b-preserved
loop-b-preserved c = moving_on c.loop-b.invariant c.loop-b-test.true refl c.lift.ensures c.pass.ensures.tag c.pass.ensures.left

pub returns-clause-bytes_written : goal.returns-clause-bytes_written
returns-clause-bytes_written c = rw (rest_is c.args.s.now c.args.i) at (moving_end c.loop-b.invariant (omega arith))
