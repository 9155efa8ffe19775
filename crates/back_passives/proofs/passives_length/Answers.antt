use Rattle.lib_base.proofs.Prelude.{◌≤◌, ◌≡◌, ◌∙◌, ap, arith}
use Rattle.back_passives.specs.PassiveWords.{again_share, count_again}
use Rattle.back_counts.proofs.CountLaws.{sum_start, sum_turn, sum_end, sound_inside}
use Rattle.back_passives.proofs.PassiveLaws.{again_small}
use Rattle.back_passives.proofs.passives_length.Goals as goal

pub loop-i-init : goal.loop-i-init
loop-i-init c = sum_start

pub passive_length-sum-requires : goal.passive_length-sum-requires
passive_length-sum-requires c = omega (arith, sound_inside c.requires c.loop-i-test.true c.entry_of.ensures)

small : (c : goal.After-passive_length-sum) → c.passive_length-sum.result ≤ 4100
small c =
    omega (arith, again_small c.entry_of.result (omega (arith, sound_inside c.requires c.loop-i-test.true c.entry_of.ensures)), c.passive_length-sum.ensures)

pub overflow_add-sum : goal.overflow_add-sum
overflow_add-sum c = omega (arith, small c, c.loop-i.invariant.small, c.requires.few)

pub loop-i-preserved : goal.loop-i-preserved
loop-i-preserved c = sum_turn c.loop-i.invariant (c.passive_length-sum.ensures ∙ ap again_share c.entry_of.ensures) (small c)

pub returns : goal.returns
unfolding count_again
returns c = let q : c.loop-i.i ≡ c.args.behaviours = omega arith in omega (arith, sum_end c.loop-i.invariant q)
