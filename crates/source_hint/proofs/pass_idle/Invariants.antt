-- Each block lies within the text.
use Rattle.lib_base.proofs.Prelude.{◌≤◌, ◌<◌, ◌-◌, length}
use Rattle.source_hint.proofs.pass_idle.Given as goal

abbrev pub invariant-loop-i : goal.invariant-loop-i
invariant-loop-i l = (l.at ≤ l.i) × (l.i < length l.text)

abbrev pub decreases-loop-i : goal.decreases-loop-i
decreases-loop-i l = length l.text - l.i
