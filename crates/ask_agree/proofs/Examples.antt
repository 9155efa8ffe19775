-- The answer of `agree` as a number, by computation: 29, the first event times 256, the second times 65,536 and the
-- behaviour times 16,777,216, as engine.h takes it apart. Of two declared events: 0 is asked with 1, and what the
-- answer names is 0 and 1. Of three: no more than events 1 and 2 at b3, where these are such.
use Rattle.lib_base.proofs.Prelude.{ℕ, ◌≤◌, ◌≡◌, refl, arith}
use Rattle.spec_language.specs.Syntax.{Program}
use Rattle.spec_language.specs.Dependence.{events}
use Rattle.check_reads.specs.First.{first_from}
use Rattle.ask_agree.specs.Answer.{packed_difference}
use Rattle.ask_agree.specs.Agree.{clash_of, clash_from}
use Rattle.ask_agree.specs.Claims.{Unequal, SharedBehaviour, DifferenceNamed}

pub events_1_and_2_at_behaviour_3 : packed_difference 1 2 3 ≡ 50463005
unfolding packed_difference
events_1_and_2_at_behaviour_3 = refl

pub asked_of_two : (p : Program) → events p ≡ 2 → clash_from p 0 ≡ first_from 1 1 (clash_of p 0)
unfolding clash_from
asked_of_two p h = rw h

pub named_of_two : (p : Program) (answer : ℕ) → events p ≡ 2 → (d : DifferenceNamed p answer) → (d.first ≡ 0) × (d.second ≡ 1)
named_of_two p answer h d = (omega (arith, d.ordered, d.declared), omega (arith, d.ordered, d.declared))

module _ (p : Program) (answer : ℕ) (d : DifferenceNamed p answer) (three : events p ≡ 3) where
  pub least_first : Unequal p 1 2 → SharedBehaviour p 1 2 3 → d.first ≤ 1
  least_first u s = d.least_first 1 2 3 (omega arith) (omega arith) u s

  pub least_second : d.first ≡ 1 → Unequal p d.first 2 → SharedBehaviour p d.first 2 3 → d.second ≤ 2
  least_second h u s = d.least_second 2 3 (omega arith) (omega arith) u s

  pub least_behaviour : SharedBehaviour p d.first d.second 3 → d.behaviour ≤ 3
  least_behaviour s = d.least_behaviour 3 s
