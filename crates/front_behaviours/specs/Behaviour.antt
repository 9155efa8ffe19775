-- Behaviours as the reader reads them: from positions in the bytes, with the draft as it is written. 01: "02 passive:
-- one expression. 03 active: a start field (04, length 4, signed 32-bit), then handlers until its end." At a field: 4,
-- 5, 4, 7, then its contents. 02, M-107: both may end with a field 08. M-110: "A new field 06 in place of 03 begins
-- with a one-byte cell count of 2 to 16 (else 8), then goes on as an active. .. past the first cell, 7 is checked after
-- the count."
use Rattle.std.specs.Prelude.{Ok, Err, ℕ, ◌+◌, ◌-◌, ◌<◌, List, length, get_or, set, ltb, leb, eqb}
use Rattle.lib_base.specs.Basics.{pick}
use Rattle.lib_word.specs.Word.{get_at}
use Rattle.spec_language.specs.declared.refusals.Refusal.TheVariants.{WrongLength, Crowded, OffScale}
use Rattle.sheet_field.specs.Field.{Field, field_of, part_of}
use Rattle.front_field.specs.Expression.{DoneRead, done, Out, out, rest_from, go_on_after, expr_of}
use Rattle.draft_form.specs.Draft.{packed_entry}
use Rattle.front_rows.specs.Cells.{least_of, most_of, row_copied}
use Rattle.front_viewers.specs.Ending.{ending_of}
use Rattle.front_behaviours.specs.Handler.{handlers_of}

-- the value v of behaviour i, a passive: its expression, and who may see it
unfoldable pub passive_of : List ℕ → ℕ → List ℕ → ℕ → Out
passive_of v i d n =
    let o : Out = expr_of 16 v d n in
    go_on_after o.0 o.1 (λ size m. ending_of (rest_from size v) i (set o.1 (4096 + i) (packed_entry 1 n (m - n))) (length v + 3) m)

-- what follows the start in the value v of behaviour i, an active: its handlers, and who may see it
unfoldable pub active_body : List ℕ → ℕ → ℕ → List ℕ → ℕ → Out
active_body v events i d n =
    let o : Out = handlers_of (length v) v 7 events i d n in
    go_on_after o.0 o.1 (λ at m. ending_of (rest_from at v) i o.1 (length v + 3) m)

-- an active's value v, where the answer for its start field is f, with the value w
abbrev pub active_from : Field → List ℕ → List ℕ → ℕ → ℕ → List ℕ → ℕ → Out
active_from (Err r) w v events i d n = out (Err r) d
active_from (Ok h) w v events i d n =
    pick (eqb h.size 4) (active_body v events i (set d (4160 + i) (get_at w 0)) n) (out (Err WrongLength) d)

unfoldable pub active_of : List ℕ → ℕ → ℕ → List ℕ → ℕ → Out
active_of v events i d n = active_from (field_of v 4 4) (part_of v (field_of v 4 4)) v events i d n

-- a row of c cells, the first of which is behaviour i, with the value v after the count: it is read as an active, and
-- the other cells are its copies
unfoldable pub cells_of : List ℕ → ℕ → ℕ → ℕ → List ℕ → ℕ → Out
cells_of v c events i d n =
    let o : Out = active_of v events i d n in
    go_on_after o.0 o.1 (λ size m. out (done (size + 1) m) (row_copied o.1 i c))

-- a row's value v
unfoldable pub row_of : List ℕ → ℕ → ℕ → List ℕ → ℕ → Out
row_of v events i d n =
    pick (eqb (length v) 0) (out (Err WrongLength) d)
    (pick (ltb (get_or v 0 0) 2) (out (Err OffScale) d)
    (pick (ltb 16 (get_or v 0 0)) (out (Err OffScale) d)
    (pick (ltb 64 (i + get_or v 0 0)) (out (Err Crowded) d)
    (cells_of (rest_from 1 v) (get_or v 0 0) events i d n))))

-- behaviour i, a field with tag t and value v
unfoldable pub value_at : ℕ → List ℕ → ℕ → ℕ → List ℕ → ℕ → Out
value_at t v events i d n =
    pick (leb 64 i) (out (Err Crowded) d)
    (pick (eqb t 2) (passive_of v i d n) (pick (eqb t 6) (row_of v events i d n) (active_of v events i d n)))

abbrev pub behaviour_from : Field → List ℕ → ℕ → ℕ → List ℕ → ℕ → Out
behaviour_from (Err r) v events i d n = out (Err r) d
behaviour_from (Ok h) v events i d n = value_at h.tag v events i d n

-- behaviour i at the front of s
unfoldable pub behaviour_of : List ℕ → ℕ → ℕ → List ℕ → ℕ → Out
behaviour_of s events i d n = behaviour_from (field_of s (least_of s 2) (most_of s)) (part_of s (field_of s (least_of s 2) (most_of s))) events i d n

-- that a behaviour read is one of 64: what is promised beside the equation
abbrev pub Counted : ℕ → DoneRead → Type 0
Counted i (Ok d) = i < 64
Counted i (Err r) = Unit {0}
