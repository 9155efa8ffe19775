-- Deliveries, of the functions that the contracts of `deliver` and `taken` cite: which number is answered, when and in
-- which order, for all bytes and numbers; that a delivery is the steps that it makes and its arrival; and that on
-- demand 3's lists an entry in its place is always taken in.
use Rattle.std.specs.Prelude.{ℕ, ◌+◌, ◌*◌, ◌≤◌, ◌<◌, true, ◌≡◌, List, [], ◌∷◌}
use Rattle.spec_language.specs.Rights.{may}
use Rattle.format_layout.specs.Layout.{event_count, senders_at, taken}
use Rattle.run_deliver.specs.Deliver.{deliver_on, taken_on}
use Rattle.run_deliver.specs.Delivery.{taken_said}
use Rattle.run_frame.specs.Framed.{end_unit}
use Rattle.back_compile.specs.Statements.{FirstUnmet}
use Rattle.refine_deliver.specs.Deliveries.{EveryDelivery, DeliverInList, AlwaysTakenIn}
use Rattle.engine_order.specs.Orders.{TakenTells}
use Rattle.claims.specs.Demand1.{OurRound, hand_count}

-- "Refused by 14; 43 where fewer than `number` were taken in (entries are missing), 44 where more ..; then 24, 15, 25,
-- 17 .. Never by 16."
abbrev pub deliver_order : List ℕ → List ℕ → ℕ → ℕ → ℕ → List (Type 0 × ℕ)
deliver_order t l n e who =
    (OurRound t l, 14)
    ∷ (n ≤ taken l, 43)
    ∷ (taken l ≤ n, 44)
    ∷ (who < 8, 24)
    ∷ (e < event_count t, 15) ∷ (may (senders_at t e) who ≡ true, 25) ∷ (n < 1000000, 17) ∷ []

pub record Deliveries : Type 0 where
  -- any other is at least 2 ^ 56: no refusal's number
  pub order : (t l : List ℕ) (n e who : ℕ) (b : List ℕ) → FirstUnmet (deliver_order t l n e who) (λ r. end_unit ≤ r) (deliver_on t l n e who b).0
  -- "`taken(table, round)`: 2^32 and the number taken in, or 14; and how many are in hand"
  pub taken_order : (t l : List ℕ) → FirstUnmet ((OurRound t l, 14) ∷ []) (λ r. r ≡ taken_said (taken l) (hand_count l)) (taken_on t l)
  -- of all bytes: the steps that it makes and the one arrival; "demand 3's lists may hold it" as these
  pub each : EveryDelivery
  pub in_lists : DeliverInList
  -- "on them it makes at most 3L/2 steps, rounded down"; and an entry in its place is taken in
  pub always : AlwaysTakenIn
  -- ".. so that commits are their difference"
  pub tells : TakenTells
