-- The events of two sheets by number, worked out from the sheets' bytes alone, as the code does. 02, M-111. That these
-- are the pooled sheet's is shown in crate link_bytes.
use Rattle.std.specs.Prelude.{Ok, Err, ℕ, zero, suc, ◌+◌, Bool, true, false, List, [], ◌++◌, get_or, drop, ltb, eqb}
use Rattle.std.specs.Int.Bits.{bit_and}
use Rattle.lib_base.specs.Basics.{pick}
use Rattle.sheet_field.specs.Field.{Field, field_of}
use Rattle.sheet_write.specs.Writes.{event_bytes}

-- how many bytes the event's field at place i has, by the field reader: 4, or 5 with a byte that says who may send it;
-- 0 where no event stands
abbrev pub field_width : Field → ℕ
field_width (Ok h) = h.size + 3
field_width (Err r) = 0

unfoldable pub width_at : List ℕ → ℕ → ℕ
width_at s i = field_width (field_of (drop i s) 1 1)

-- the priority (01: rank) and the sender byte of a field of w bytes, 256 where there is none
unfoldable pub rank_at : List ℕ → ℕ → ℕ → ℕ
rank_at s i w = pick (ltb w 4) 0 (get_or s (i + 3) 0)

unfoldable pub sender_at : List ℕ → ℕ → ℕ → ℕ
sender_at s i w = pick (eqb w 5) (get_or s (i + 4) 0) 256

unfoldable pub merged : ℕ → ℕ → ℕ
merged x y = pick (eqb x 256) y (pick (eqb y 256) x (bit_and x y))

-- the field of the events at place i of s and at place j of t, which have a and b bytes
unfoldable pub pair_bytes : List ℕ → ℕ → ℕ → List ℕ → ℕ → ℕ → List ℕ
pair_bytes s i a t j b =
    pick (eqb a 0)
    (pick (eqb b 0) [] (event_bytes (rank_at t j b) (merged (sender_at s i a) (sender_at t j b))))
    (event_bytes (rank_at s i a) (merged (sender_at s i a) (sender_at t j b)))

-- the next n events from these places on
unfoldable pub events_from : ℕ → List ℕ → ℕ → List ℕ → ℕ → List ℕ
events_from zero s i t j = []
events_from (suc n) s i t j = pair_bytes s i (width_at s i) t j (width_at t j) ++ events_from n s (i + width_at s i) t (j + width_at t j)

-- the place after the next n events
unfoldable pub end_from : ℕ → List ℕ → ℕ → ℕ
end_from zero s i = i
end_from (suc n) s i = end_from n s (i + width_at s i)

-- none of the next n events that both declare has two ranks
unfoldable pub agree_from : ℕ → List ℕ → ℕ → List ℕ → ℕ → Bool
agree_from zero s i t j = true
agree_from (suc n) s i t j =
    pick (eqb (width_at s i) 0) true
    (pick (eqb (width_at t j) 0) true
    (pick (eqb (rank_at s i (width_at s i)) (rank_at t j (width_at t j))) (agree_from n s (i + width_at s i) t (j + width_at t j)) false))
