use Rattle.lib_base.proofs.Prelude.{◌≤◌, ◌∙◌, ap, arith}
use Rattle.back_counts.specs.Counts.{share_of, count_event}
use Rattle.back_counts.proofs.CountLaws.{sum_start, sum_turn, sum_end, sound_inside, share_small}
use Rattle.back_counts.proofs.count_event.Goals as goal

pub loop-i-init : goal.loop-i-init
loop-i-init c = sum_start

pub entry_length-sum-requires : goal.entry_length-sum-requires
entry_length-sum-requires c = omega (arith, sound_inside c.requires c.loop-i-test.true c.entry_of.ensures)

small : (c : goal.After-entry_length-sum) → c.entry_length-sum.result ≤ 4100
small c =
    omega (arith, share_small c.entry_of.result (omega (arith, sound_inside c.requires c.loop-i-test.true c.entry_of.ensures)), c.entry_length-sum.ensures)

pub overflow_add-sum : goal.overflow_add-sum
overflow_add-sum c = omega (arith, small c, c.loop-i.invariant.small, c.requires.few)

pub loop-i-preserved : goal.loop-i-preserved
loop-i-preserved c = sum_turn c.loop-i.invariant (c.entry_length-sum.ensures ∙ ap share_of c.entry_of.ensures) (small c)

pub returns : goal.returns
unfolding count_event
returns c = sum_end c.loop-i.invariant (omega arith)
