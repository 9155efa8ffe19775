use Rattle.lib_base.proofs.Prelude.{◌≡◌, ◌∙◌, sym, arith}
use Rattle.back_counts.proofs.CountLaws.{sum_start, sum_one, sum_none, sum_end}
use Rattle.back_schedule.specs.Ordering.{count_turns}
use Rattle.back_schedule.proofs.OrderingLaws.{turn_none, turn_one}
use Rattle.back_schedule.proofs.count_turns.Goals as goal
use Rattle.back_schedule.proofs.count_turns.Goals.{then-not-is_met, else-not-is_met}

pub loop-i-init : goal.loop-i-init
loop-i-init c = sum_start

pub loop-i-preserved : goal.loop-i-preserved
loop-i-preserved c =
    let was = c.loop-i.invariant in
    elim c.if-not-is_met.branch [
      | then-not-is_met w ↦ rw w.count-is (sum_one was (turn_one _ c.entry_of.ensures (sym c.is_met.ensures ∙ w.if-not-is_met.true)))
      | else-not-is_met w ↦ rw w.count-is (sum_none was (turn_none _ c.entry_of.ensures (sym c.is_met.ensures ∙ w.if-not-is_met.false)))
    ]

pub returns : goal.returns
unfolding count_turns
returns c = let q : c.loop-i.i ≡ c.args.behaviours = omega arith in omega (arith, sum_end c.loop-i.invariant q)
