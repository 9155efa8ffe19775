-- How far a burst has come: instructions made at once, and those with a step more.
use Rattle.std.specs.Prelude.{ℕ, ◌+◌, ◌<◌, Bool, false, ◌≡◌, List}
use Rattle.lib_base.specs.Basics.{pick}
use Rattle.run_step.specs.Sound.{RoundSound, is_outranked, outranked_after}
use Rattle.run_burst.specs.Burst.{stops, burst_on}

-- r instructions lead from l to l'
pub record InstructionsRun (t l : List ℕ) (r : ℕ) (l' : List ℕ) : Type 0 where
  pub same : (k : ℕ) → burst_on t (r + k) l ≡ burst_on t k l'
  pub sound : RoundSound t l'
  pub rank : is_outranked t l' ≡ is_outranked t l

-- of k steps from l some were made, to l', the last of them answering a; k' are left; o: the running one was outranked
pub record Advanced (t : List ℕ) (o : Bool) (k : ℕ) (l : List ℕ) (a k' : ℕ) (l' : List ℕ) : Type 0 where
  pub whole : burst_on t k l ≡ pick (stops a) (a, k', l') (burst_on t k' l')
  pub less : stops a ≡ false → k' < k
  pub sound : RoundSound t l'
  pub rank : is_outranked t l' ≡ outranked_after o a
