-- Those of the behaviours passed that have a turn are counted.
use Rattle.lib_base.proofs.Prelude.{◌-◌}
use Rattle.draft_form.specs.Draft.{entry_of}
use Rattle.back_counts.proofs.CountLaws.{Sum}
use Rattle.back_schedule.specs.Ordering.{met_mark}
use Rattle.back_schedule.proofs.count_turns.Given as goal

abbrev pub invariant-loop-i : goal.invariant-loop-i
invariant-loop-i l = Sum (λ j. 1 - met_mark (entry_of l.draft l.event j)) 0 l.i l.count
