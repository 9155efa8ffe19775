-- The behaviours passed are searched, after those of the turns before.
use Rattle.lib_base.proofs.Prelude.{ℕ, ◌≡◌}
use Rattle.check_shortest.specs.Search.{event_of_turn, FewestIfAny, EarliestIfAny}
use Rattle.check_shortest.proofs.best_under.Given as goal

abbrev pub invariant-loop-i : goal.invariant-loop-i
invariant-loop-i l = ((ev t : ℕ) → l.e ≡ event_of_turn ev t → EarliestIfAny l.d ev l.n t 0 l.fn.best → EarliestIfAny l.d ev l.n t l.i l.shortest)
    × ((ev t : ℕ) → l.e ≡ event_of_turn ev t → FewestIfAny l.d ev l.n t 0 l.fn.best → FewestIfAny l.d ev l.n t l.i l.shortest)
