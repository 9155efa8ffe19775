-- The answer of `agree_for` as a number, by computation: as `agree` packs it, 29, the first event times 256, the second
-- times 65,536 and the behaviour times 16,777,216, as engine.h takes it apart; 18 for b2 of two behaviours. Where two
-- events are declared, what the answer names is 0 and 1; where three are, no more than 1 and 2 at b3, where these meet.
use Rattle.lib_base.proofs.Prelude.{ℕ, ◌≤◌, ◌+◌, ◌/◌, ◌≡◌, refl, Bool, ◌||◌, ◌&&◌, eqb, arith}
use Rattle.spec_language.specs.Syntax.{Program}
use Rattle.spec_language.specs.Dependence.{size, events}
use Rattle.check_reads.specs.First.{first_from}
use Rattle.ask_agree.specs.Answer.{packed_difference}
use Rattle.ask_agree.specs.Claims.{Unequal}
use Rattle.ask_commute.specs.Meets.{MeetAt}
use Rattle.ask_agree_for.specs.Encounter.{encounter_at, encounter_with, encounter_from, encounter_by}
use Rattle.ask_agree_for.specs.AgreeFor.{agree_for_in}
use Rattle.ask_agree_for.specs.Claims.{EncounterNamed}

-- events 0 and 1 meet at b2, and events 1 and 2 at b3
abbrev met : ℕ → ℕ → ℕ → Bool
met e f i = (eqb e 0 && eqb f 1 && eqb i 2) || (eqb e 1 && eqb f 2 && eqb i 3)

-- of ranks 5, 5, 6: the first two are of equal rank; of ranks 5, 6, 7
pub answers : (encounter_by (λ e. 5 + e / 2) 4 met 3 ≡ 50463005) × (encounter_by (λ e. 5 + e) 4 met 3 ≡ 33619997) × (encounter_by (λ e. 5) 4 met 3 ≡ 0)
unfolding encounter_at encounter_with encounter_from encounter_by first_from packed_difference
answers = (refl, refl, refl)

pub no_behaviour_law : (p : Program) → size p ≡ 2 → agree_for_in p 2 ≡ 18
unfolding agree_for_in
no_behaviour_law p h = rw h

pub named_of_two : (p : Program) (D : ℕ → Type 0) (answer : ℕ) → events p ≡ 2 → (d : EncounterNamed p D answer) → (d.first ≡ 0) × (d.second ≡ 1)
named_of_two p D answer h d = (omega (arith, d.ordered, d.declared), omega (arith, d.ordered, d.declared))

module _ (p : Program) (D : ℕ → Type 0) (answer : ℕ) (d : EncounterNamed p D answer) (three : events p ≡ 3) where
  pub least_first : Unequal p 1 2 → MeetAt p D 1 2 3 → d.first ≤ 1
  least_first u m = d.least_first 1 2 3 (omega arith) (omega arith) u m

  pub least_second : d.first ≡ 1 → Unequal p d.first 2 → MeetAt p D d.first 2 3 → d.second ≤ 2
  least_second h u m = d.least_second 2 3 (omega arith) (omega arith) u m

  pub least_behaviour : MeetAt p D d.first d.second 3 → d.behaviour ≤ 3
  least_behaviour m = d.least_behaviour 3 m
