-- The answers of `deliver` and `taken` as numbers, by computation, as engine.h takes them apart, and a delivery's
-- refusals in their order: 43, 44, 24, 15, 25, 17. With a full hand: seven bytes lent for a commit, and eight.
use Rattle.lib_base.proofs.Prelude.{ℕ, ◌≡◌, refl, List, [], ◌∷◌, length}
use Rattle.run_frame.specs.Frame.{frame_said}
use Rattle.run_burst.specs.Burst.{burst_on}
use Rattle.run_deliver.specs.Deliver.{delivery_refusal, deliver_after, deliver_full}
use Rattle.run_deliver.specs.Delivery.{delivered_now, no_commit_room, broken_off, delivery, taken_said}

-- taken in; no room for a commit; a step was refused
pub outcomes : delivered_now ∷ no_commit_room ∷ broken_off ∷ [] ≡ 1 ∷ 2 ∷ 3 ∷ []
outcomes = refl

-- taken in after 17 steps, of which the last commits; the hand is full and no step is made
pub packed_outcomes : (frame_said delivered_now 17 1 ≡ 72057598332895249) × (frame_said no_commit_room 0 0 ≡ 144115188075855872)
packed_outcomes = (refl, refl)

-- 5 are taken in, and 3 of them are in hand
pub five_taken_in : taken_said 5 3 ≡ 3302829850629
five_taken_in = refl

-- 5 are taken in and 2 events are declared, which players 1 and 2 may send: entry 6, entry 4, and entry 5 of player 8,
-- of event 2, of player 3, and of player 1
pub in_order : (delivery_refusal 5 2 6 6 2 8 ≡ 43) × (delivery_refusal 5 2 6 4 2 8 ≡ 44) × (delivery_refusal 5 2 6 5 2 8 ≡ 24)
    × (delivery_refusal 5 2 6 5 2 3 ≡ 15) × (delivery_refusal 5 2 6 5 1 3 ≡ 25) × (delivery_refusal 5 2 6 5 1 1 ≡ 0)
unfolding delivery_refusal
in_order = (refl, refl, refl, refl, refl, refl)

-- entry 999,999 is the last
pub spent_order : (delivery_refusal 999999 2 6 999999 1 1 ≡ 0) × (delivery_refusal 1000000 2 6 1000000 1 1 ≡ 17)
unfolding delivery_refusal
spent_order = (refl, refl)

-- "With a full hand and under eight bytes for commits it makes no step"
pub room_for_one : (t l b : List ℕ) → ((length b ≡ 7 → deliver_full t l 5 0 0 b ≡ delivery 144115188075855872 l b) × (length b ≡ 8 → deliver_full t l 5 0 0 b ≡ deliver_after (burst_on t 8192 l) 5 0 0 b))
unfolding deliver_full
room_for_one t l b = (λ h. rw h, λ h. rw h)
