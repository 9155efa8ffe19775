-- Worked examples, by computation, with two events declared: an event's number in the answer of `circle`, 255 for none,
-- and whose turn it is.
use Rattle.lib_base.proofs.Prelude.{◌≡◌, refl, [], ◌∷◌, map}
use Rattle.check_shortest.specs.Search.{event_of_turn}
use Rattle.check_shortest.specs.EventNumber.{event_number}

pub of_two_events : (event_number 0 2 ≡ 0) × (event_number 1 2 ≡ 1) × (event_number 2 2 ≡ 255)
unfolding event_number
of_two_events = (refl, refl, refl)

-- none first
pub turns : map (event_of_turn 2) (0 ∷ 1 ∷ 2 ∷ []) ≡ 2 ∷ 0 ∷ 1 ∷ []
unfolding event_of_turn
turns = refl
