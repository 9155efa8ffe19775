-- What a table tells of its program. A number is told as 2 ^ 32 and the number, so that it is no refusal's.
use Rattle.std.specs.Prelude.{ℕ, ◌≤◌, ◌<◌, ◌≡◌, List, get_or}
use Rattle.spec_language.specs.Syntax.{Program}
use Rattle.spec_language.specs.Dependence.{size, events}
use Rattle.spec_language.specs.Answers.{told}
use Rattle.run_counts.specs.Counts.{event_count_on, behaviour_count_on, event_rank_on}

-- the table t tells program p's counts and ranks
pub record Tells (p : Program) (t : List ℕ) : Type 0 where
  pub events_told : event_count_on t ≡ told (events p)
  pub behaviours_told : behaviour_count_on t ≡ told (size p)
  pub rank_told : (e : ℕ) → e < events p → event_rank_on t e ≡ told (get_or p.priorities e 0)
  pub no_other : (e : ℕ) → events p ≤ e → event_rank_on t e ≡ 15
