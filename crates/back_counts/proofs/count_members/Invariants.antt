-- The members among the behaviours passed are counted.
use Rattle.draft_form.specs.Draft.{entry_of}
use Rattle.back_counts.specs.Counts.{is_member}
use Rattle.back_counts.proofs.CountLaws.{Sum}
use Rattle.back_counts.proofs.count_members.Given as goal

abbrev pub invariant-loop-i : goal.invariant-loop-i
invariant-loop-i l = Sum (λ j. is_member (entry_of l.draft l.event j)) 0 l.i l.count
