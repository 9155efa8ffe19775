use Rattle.lib_base.proofs.Prelude.{arith}
use Rattle.ask_meets.proofs.MarkLaws.{put_on, put_full}
use Rattle.ask_meets.proofs.Stack.push.Goals as goal

pub returns-then-self-eq-ROOM : goal.returns-then-self-eq-ROOM
returns-then-self-eq-ROOM c =
    rw c.if-self-eq-ROOM.true (put_full _ _ _ _ (omega arith) (omega arith) c.copy_within.ensures.by_index.0)

pub returns : goal.returns
returns c = put_on _ _ _ (omega arith) (omega arith)
