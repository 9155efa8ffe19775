-- Who sent an arrival changes neither its priority nor its meaning: what holds of arrivals holds of them without their
-- players. By induction on the lists.
use Rattle.lib_base.proofs.Prelude.{ℕ, suc, ◌≡◌, refl, ap, List, [], ◌∷◌, map, Pairwise·of-cons, Pairwise·nil, Pairwise}
use Rattle.lib_base.proofs.Prelude.{Pairwise·cons, Pairwise-cons}
use Rattle.lib_base.specs.Basics.{All}
use Rattle.lib_base.proofs.Tools.{all_mem, all_of_mem}
use Rattle.spec_language.specs.Syntax.{Program}
use Rattle.spec_model.specs.Model.{Arrival, arrival}
use Rattle.spec_model.specs.Claims.{events_of, unsigned}
use Rattle.spec_model.proofs.Choice.{numbers}
use Rattle.spec_model.proofs.Equals.{Sooner, sooner_prop}

abbrev pub all_unsigned : List Arrival → List Arrival
all_unsigned l = map unsigned l

-- these events, numbered from n on
abbrev pub numbered : ℕ → List ℕ → List Arrival
numbered n [] = []
numbered n (e ∷ l) = arrival n e 0 ∷ numbered (suc n) l

pub same_events : (l : List Arrival) → events_of (all_unsigned l) ≡ events_of l
same_events [] = refl
same_events (a ∷ l) = ap (λ (m : List ℕ). a.event ∷ m) (same_events l)

pub same_numbers : (l : List Arrival) → numbers (all_unsigned l) ≡ numbers l
same_numbers [] = refl
same_numbers (a ∷ l) = ap (λ (m : List ℕ). a.number ∷ m) (same_numbers l)

pub all_unsigned_law : (P : Arrival → Type 0) (l : List Arrival) → All (λ a. P (unsigned a)) l → All P (all_unsigned l)
all_unsigned_law P [] h = tt
all_unsigned_law P (a ∷ l) h = (h.0, all_unsigned_law P l h.1)

pub pairs_unsigned : (p : Program) (l : List Arrival) → Pairwise (Sooner p) l → Pairwise (Sooner p) (all_unsigned l)
pairs_unsigned p [] h = Pairwise·nil
pairs_unsigned p (a ∷ l) h =
    Pairwise·cons
    (λ x m. all_mem (Sooner p (unsigned a)) (sooner_prop p (unsigned a)) (all_unsigned l)
    (all_unsigned_law (Sooner p (unsigned a)) l (all_of_mem (λ y. Sooner p (unsigned a) (unsigned y)) l (Pairwise-cons.0 h).0)) x m)
    (pairs_unsigned p l (Pairwise·of-cons h))
