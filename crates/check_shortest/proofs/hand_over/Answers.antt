-- With room the bytes are copied, else nothing is done.
use Rattle.lib_base.proofs.Prelude.{arith, length, le-ltb, lt-ltb}
use Rattle.check_shortest.specs.Search.{handed}
use Rattle.check_shortest.proofs.hand_over.Goals as goal

pub returns-then-r-list : goal.returns-then-r-list
unfolding handed
returns-then-r-list c = rw (c.copy_from_slice.ensures.after, le-ltb (length c.args.list.now) c.args.r (omega arith))

pub returns-else-r-list : goal.returns-else-r-list
unfolding handed
returns-else-r-list c = rw (lt-ltb (length c.args.list.now) c.args.r (omega arith))
