-- What the answer of `agree_for` says of an accepted sheet's program, about a set of behaviours: 0 exactly if no two
-- events of unequal rank meet in it, and what is named is true. Where two events meet: crate ask_commute, Meets.antt.
use Rattle.std.specs.Prelude.{ℕ, ◌≤◌, ◌<◌, ◌≡◌}
use Rattle.spec_language.specs.Syntax.{Program}
use Rattle.spec_language.specs.Dependence.{size, events}
use Rattle.ask_agree.specs.Answer.{packed_difference}
use Rattle.ask_agree.specs.Claims.{Unequal}
use Rattle.ask_commute.specs.Meets.{MeetAt}

-- the answer names two events of unequal rank that meet, and the behaviour at which they do: the least first event,
-- then the least second, then the least behaviour
pub record EncounterNamed (p : Program) (D : ℕ → Type 0) (answer : ℕ) : Type 0 where
  pub first : ℕ
  pub second : ℕ
  pub behaviour : ℕ
  pub is : answer ≡ packed_difference first second behaviour
  pub ordered : first < second
  pub declared : second < events p
  pub in_sheet : behaviour < size p
  pub unequal : Unequal p first second
  pub meet : MeetAt p D first second behaviour
  pub least_first : (e f i : ℕ) → e < f → f < events p → Unequal p e f → MeetAt p D e f i → first ≤ e
  pub least_second : (f i : ℕ) → first < f → f < events p → Unequal p first f → MeetAt p D first f i → second ≤ f
  pub least_behaviour : (i : ℕ) → MeetAt p D first second i → behaviour ≤ i
