-- None of the marks passed names the behaviour.
use Rattle.lib_base.proofs.Prelude.{◌≡◌}
use Rattle.ask_meets.specs.Marks.{marks_packed}
use Rattle.ask_meets.specs.Marking.{standing}
use Rattle.ask_meets.proofs.Stack.is_only.Given as goal

abbrev pub invariant-loop-below : goal.invariant-loop-below
invariant-loop-below l = marks_packed (standing l.self.marks l.below) ≡ 0
