-- Worked examples, by computation: the limits of an arrival at 64 in hand and at 1,000,000 taken in, and the order of
-- the refusals that follow 15. 01 "The hand is .. at most 64 together. Arrivals taken in are numbered from 0, at most
-- 1,000,000 a round." "Arrival: 14, 15, 16, 17."; 02, M-107: 25 after 15.
use Rattle.lib_base.proofs.Prelude.{◌≡◌, refl, true, false, []}
use Rattle.run_arrive.specs.Arrivals.{queue_full, arrive_with}

-- 64 in hand, of which one runs or none
pub full_hand : (queue_full 63 0 ≡ false) × (queue_full 64 0 ≡ true) × (queue_full 62 1 ≡ false) × (queue_full 63 1 ≡ true)
unfolding queue_full
full_hand = (refl, refl, refl, refl)

-- the last that is taken in has the number 999,999
pub spent_round : ((arrive_with [] 0 0 true 0 false 999999).0 ≡ 0) × ((arrive_with [] 0 0 true 0 false 1000000).0 ≡ 17)
unfolding arrive_with
spent_round = (refl, refl)

-- 25 before 16 before 17
pub in_order : ((arrive_with [] 0 0 false 64 true 1000000).0 ≡ 25) × ((arrive_with [] 0 0 true 64 true 1000000).0 ≡ 16)
unfolding arrive_with
in_order = (refl, refl)
