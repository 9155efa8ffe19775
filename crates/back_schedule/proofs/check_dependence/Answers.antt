use Rattle.back_schedule.proofs.OrderingLaws.{left_out, all_in, circle_checked, order_checked}
use Rattle.back_schedule.proofs.check_dependence.Goals as goal

pub returns-then-count-count_turns : goal.returns-then-count-count_turns
returns-then-count-count_turns c =
    circle_checked _ _ _ _ (left_out _ _ _ c.order_under-count.ensures c.count_turns.ensures c.if-count-count_turns.true)

pub returns : goal.returns
returns c =
    let h = c.order_under-count.ensures in
    order_checked _ _ _ _ _ (all_in _ _ _ h c.count_turns.ensures c.if-count-count_turns.false) h
