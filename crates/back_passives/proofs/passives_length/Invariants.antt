-- What the behaviours passed add is in the sum.
use Rattle.draft_form.specs.Draft.{entry_of}
use Rattle.back_counts.proofs.CountLaws.{Sum}
use Rattle.back_passives.specs.PassiveWords.{again_share}
use Rattle.back_passives.proofs.passives_length.Given as goal

abbrev pub invariant-loop-i : goal.invariant-loop-i
invariant-loop-i l = Sum (λ j. again_share (entry_of l.draft 0 j)) 0 l.i l.sum
