-- Handlers as the reader reads them: from positions in the bytes, with the draft as it is written. 01: "In a handler:
-- event, phase, 10, expression."
use Rattle.std.specs.Prelude.{Ok, Err, ℕ, zero, suc, ◌+◌, ◌*◌, ◌-◌, ◌≤◌, ◌<◌, ◌≡◌, List, length, get_or, set, ltb, leb, eqb}
use Rattle.lib_base.specs.Basics.{pick}
use Rattle.spec_language.specs.declared.refusals.Refusal.TheVariants.{Torn, WrongLength, OffScale, Doubled}
use Rattle.spec_language.specs.Limits.{behaviour_limit, event_limit}
use Rattle.sheet_field.specs.Sizes.{handler_head}
use Rattle.sheet_field.specs.Field.{Field, field_of, part_of}
use Rattle.front_field.specs.Expression.{DoneRead, done, Out, out, rest_from, go_on_after, expr_of}
use Rattle.draft_form.specs.Draft.{draft_length, packed_entry}

-- what the readers need of their numbers: an entry's place in the draft, its kind and the bytes of the field before it;
-- so many events declared, and a behaviour's number; the same for a row of so many cells
abbrev pub EntryPlaced : ℕ → ℕ → ℕ → Type 0
EntryPlaced place kind over = (place < draft_length) × ((kind ≤ 3) × (over ≤ handler_head))

abbrev pub InLimits : ℕ → ℕ → Type 0
InLimits events i = (events ≤ event_limit) × (i < behaviour_limit)

abbrev pub RowInLimits : ℕ → ℕ → ℕ → Type 0
RowInLimits events i count = (events ≤ event_limit) × ((i < behaviour_limit) × (i + count ≤ behaviour_limit))

-- an expression that fills v, its entry put at `place`; the field has `over` bytes before v
unfoldable pub entry_at : List ℕ → List ℕ → ℕ → ℕ → ℕ → ℕ → Out
entry_at v d n place kind over =
    let o : Out = expr_of 16 v d n in
    go_on_after o.0 o.1 (λ size m. pick (eqb size (length v)) (out (done (size + over) m) (set o.1 place (packed_entry kind n (m - n)))) (out (Err WrongLength) o.1))

-- where the entry of behaviour i for event e stands
abbrev pub slot : ℕ → ℕ → ℕ
slot i e = 2048 + i * 32 + e

-- a handler's value v, of behaviour i, where so many events are declared
unfoldable pub handler_at : List ℕ → ℕ → ℕ → List ℕ → ℕ → Out
handler_at v events i d n =
    pick (eqb (length v) 0) (out (Err WrongLength) d)
    (pick (leb events (get_or v 0 0)) (out (Err OffScale) d)
    (pick (eqb (length v) 1) (out (Err WrongLength) d)
    (pick (ltb 1 (get_or v 1 0)) (out (Err OffScale) d)
    (pick (eqb (get_or d (slot i (get_or v 0 0)) 0) 0)
    (entry_at (rest_from 2 v) d n (slot i (get_or v 0 0)) (2 + get_or v 1 0) 5)
    (out (Err Doubled) d)))))

abbrev pub handler_from : Field → List ℕ → ℕ → ℕ → List ℕ → ℕ → Out
handler_from (Err r) v events i d n = out (Err r) d
handler_from (Ok h) v events i d n = handler_at v events i d n

-- a handler at the front of s
unfoldable pub handler_of : List ℕ → ℕ → ℕ → List ℕ → ℕ → Out
handler_of s events i d n = handler_from (field_of s 5 5) (part_of s (field_of s 5 5)) events i d n

-- handlers in v from `at` on to its end or to a tag 08 (02, M-107): the place after them; the first number bounds their
-- count
unfoldable pub handlers_of : ℕ → List ℕ → ℕ → ℕ → ℕ → List ℕ → ℕ → Out
handlers_of zero v at events i d n =
    pick (eqb at (length v)) (out (done at n) d)
    (pick (eqb (get_or v at 0) 8) (out (done at n) d) (out (Err Torn) d))
handlers_of (suc k) v at events i d n =
    pick (eqb at (length v)) (out (done at n) d)
    (pick (eqb (get_or v at 0) 8) (out (done at n) d)
    (let o : Out = handler_of (rest_from at v) events i d n in
    go_on_after o.0 o.1 (λ size m. handlers_of k v (at + size) events i o.1 m)))

-- that a field of so many bytes is taken whole, and that a node takes four bytes at least: what is promised beside the
-- equation
abbrev pub BodyIn : ℕ → ℕ → DoneRead → Type 0
BodyIn size n (Ok d) = (d.size ≡ size) × (d.next * 4 ≤ n * 4 + size) × (n ≤ d.next)
BodyIn size n (Err r) = Unit {0}
