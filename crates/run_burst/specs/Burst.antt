-- A burst: the steps up to the next commit, for all bytes. It ends before a step that is idle or refused, and after one
-- that commits.
use Rattle.std.specs.Prelude.{ℕ, zero, suc, Bool, true, List, eqb}
use Rattle.lib_base.specs.Basics.{pick}
use Rattle.spec_language.specs.Refusals.{foreign}
use Rattle.spec_language.specs.Answers as kinds
use Rattle.run_step.specs.Machine.{step_on}
use Rattle.run_burst.specs.Commit.{is_commit}

-- a step that answers a is not made: idle, or refused
unfoldable pub unmade : ℕ → Bool
unmade a = pick (eqb a kinds.idle) true (eqb a foreign)

-- a burst ends there
unfoldable pub stops : ℕ → Bool
stops a = pick (unmade a) true (is_commit a)

-- the answer, the steps left and the round's bytes
abbrev pub Burst : Type 0
Burst = ℕ × ℕ × List ℕ

abbrev pub burst : ℕ → ℕ → List ℕ → Burst
burst a left l = (a, left, l)

-- up to k steps; where all are made and none commits, the answer is that of an instruction
unfoldable pub burst_on : List ℕ → ℕ → List ℕ → Burst
burst_on t zero l = (kinds.ran, 0, l)
burst_on t (suc k) l =
    pick (unmade (step_on t l).0) ((step_on t l).0, suc k, l)
    (pick (is_commit (step_on t l).0) ((step_on t l).0, k, (step_on t l).1)
    (burst_on t k (step_on t l).1))
