-- The queue in the round's bytes: the choice of the next, and writing a waiting arrival. 01 "Next means highest rank,
-- then lowest arrival number."
use Rattle.std.specs.Prelude.{ℕ, zero, suc, ◌+◌, ◌*◌, ◌<◌, Bool, true, false, List, ltb}
use Rattle.lib_base.specs.Basics.{pick}
use Rattle.lib_word.specs.Word.{put}
use Rattle.format_layout.specs.Layout.{event_word, number_at, event_at}

-- the events of the first n waiting have a record in the table, as those of a judged round do
abbrev pub EventsKnown : List ℕ → ℕ → Type 0
EventsKnown l n = (i : ℕ) → i < n → event_at l i < 32

-- priority p, number n goes before priority q, number m
unfoldable pub ahead : ℕ → ℕ → ℕ → ℕ → Bool
ahead p n q m = pick (ltb q p) true (pick (ltb p q) false (ltb n m))

unfoldable pub either_slot : Bool → ℕ → ℕ → ℕ
either_slot a i b = pick a i b

unfoldable pub better : List ℕ → List ℕ → ℕ → ℕ → ℕ
better t l i b = either_slot (ahead (event_word t (event_at l i) 0) (number_at l i) (event_word t (event_at l b) 0) (number_at l b)) i b

-- the slot that goes before all others of the first n
unfoldable pub best : List ℕ → List ℕ → ℕ → ℕ
best t l zero = 0
best t l (suc n) = better t l n (best t l n)

-- one of the first n waiting has a priority above p
unfoldable pub any_above : List ℕ → List ℕ → ℕ → ℕ → Bool
any_above t l p zero = false
any_above t l p (suc n) = pick (ltb p (event_word t (event_at l n) 0)) true (any_above t l p n)

-- arrival n, with the word of its event and player
unfoldable pub put_slot : List ℕ → ℕ → ℕ → ℕ → List ℕ
put_slot l i n w = put (put l (8 + i * 2) n) (9 + i * 2) w

-- arrival k joins the n that wait, w being the word of its event and player
unfoldable pub in_hand_last : List ℕ → ℕ → ℕ → ℕ → List ℕ
in_hand_last l n k w = put (put_slot l n k w) 1 (n + 1)
