-- Each look is further on in the text.
use Rattle.lib_base.proofs.Prelude.{◌≤◌, ◌-◌, length}
use Rattle.source_hint.proofs.next_declaring.Given as goal

abbrev pub invariant-loop-i : goal.invariant-loop-i
invariant-loop-i l = l.i ≤ length l.text

abbrev pub decreases-loop-i : goal.decreases-loop-i
decreases-loop-i l = length l.text - l.i
