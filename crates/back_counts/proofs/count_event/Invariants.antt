-- What the behaviours passed add is in the sum.
use Rattle.draft_form.specs.Draft.{entry_of}
use Rattle.back_counts.specs.Counts.{share_of}
use Rattle.back_counts.proofs.CountLaws.{Sum}
use Rattle.back_counts.proofs.count_event.Given as goal

abbrev pub invariant-loop-i : goal.invariant-loop-i
invariant-loop-i l = Sum (λ j. share_of (entry_of l.draft l.event j)) 4 l.i l.sum
