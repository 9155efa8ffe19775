-- The count of those that wait and the number taken in are written in the other order.
use Rattle.lib_base.proofs.Prelude.{◌+◌, ◌*◌, ◌∙◌}
use Rattle.format_layout.specs.Layout.{waiting_count}
use Rattle.run_queue.specs.Queue.{put_slot, in_hand_last}
use Rattle.run_arrive.specs.Arrivals.{admit}
use Rattle.run_arrive.proofs.Swap.{count_then_taken}
use Rattle.run_arrive.proofs.admit.Goals as goal

pub returns : goal.returns
unfolding admit in_hand_last
returns c =
    let l = c.args.round.now in
    let n = waiting_count l in
    rw c.join_hand.ensures at c.put_word.ensures
    ∙ count_then_taken (put_slot l n c.args.number (c.args.player * 256 + c.args.event)) (n + 1) (c.args.number + 1)
