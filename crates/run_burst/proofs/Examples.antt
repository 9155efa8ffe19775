-- Worked examples, by computation: of a step's answers (idle, one instruction, and arrival 7 of event 3 from player 1
-- started, committed, preempted; 14) which commit, and where a burst stops.
use Rattle.lib_base.proofs.Prelude.{◌≡◌, refl, true, false, [], ◌∷◌, map}
use Rattle.run_burst.specs.Commit.{is_commit}
use Rattle.run_burst.specs.Burst.{unmade, stops}

pub commits : map is_commit (0 ∷ 1 ∷ 459538 ∷ 459539 ∷ 459540 ∷ []) ≡ false ∷ false ∷ false ∷ true ∷ false ∷ []
commits = refl

pub ends : map stops (0 ∷ 1 ∷ 459538 ∷ 459539 ∷ 459540 ∷ 14 ∷ []) ≡ true ∷ false ∷ false ∷ true ∷ false ∷ true ∷ []
unfolding stops unmade
ends = refl
