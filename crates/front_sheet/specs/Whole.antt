-- A program as the reader reads it: from positions in the bytes, with the draft as it is written. 01: "Events come
-- first, at most 32", "Then behaviours, at most 64". 02, M-107: "An event field may have length 2, its second byte
-- saying who may send it (bit n for player n). .. Where either is missing, everybody may."
use Rattle.std.specs.Prelude.{Option, Some, None, Result, Ok, Err, ℕ, zero, suc, ◌+◌, ◌≤◌, ◌<◌, List, length, get_or, set, ltb, leb, eqb}
use Rattle.lib_base.specs.Basics.{pick}
use Rattle.spec_language.specs.Numbers.{refusal_number}
use Rattle.spec_language.specs.declared.refusals.Refusal.{Refusal}
use Rattle.spec_language.specs.declared.refusals.Refusal.TheVariants.{Torn, WrongLength, Crowded, OffScale}
use Rattle.sheet_field.specs.Field.{Field, field_of, part_of}
use Rattle.front_field.specs.Expression.{DoneRead, Out, rest_from}
use Rattle.front_rows.specs.Cells.{least_of, most_of, cells_at}
use Rattle.front_behaviours.specs.Behaviour.{behaviour_of}
use Rattle.front_sheet.specs.declared.Counts.{Counts}
use Rattle.front_sheet.specs.declared.Events.{Events}

-- what stands where an event is due: a field of so many bytes, or a behaviour
abbrev pub EventDue : Type 0
EventDue = Result (Option ℕ) Refusal

-- where the events end, and how many there are
abbrev pub listed : ℕ → ℕ → Result Events Refusal
listed end count = Ok (record { end = end; count = count })

-- what reading a program gives
abbrev pub ready : ℕ → ℕ → ℕ → Result Counts Refusal
ready events behaviours nodes = Ok (record { events = events; behaviours = behaviours; nodes = nodes })

-- what stands there, and the draft
abbrev pub EventRead : Type 0
EventRead = EventDue × List ℕ

abbrev pub event_read : EventDue → List ℕ → EventRead
event_read r d = (r, d)

-- where the draft has who may send event e
abbrev pub sender : ℕ → ℕ
sender e = 4320 + e

-- the value v of event e
unfoldable pub signal_at : List ℕ → ℕ → List ℕ → EventRead
signal_at v e d =
    pick (eqb (length v) 0) (event_read (Err WrongLength) d)
    (pick (ltb 2 (length v)) (event_read (Err WrongLength) d)
    (pick (ltb 15 (get_or v 0 0)) (event_read (Err OffScale) d)
    (pick (eqb (length v) 1)
    (event_read (Ok (Some 4)) (set (set d (4224 + e) (get_or v 0 0)) (sender e) 255))
    (event_read (Ok (Some 5)) (set (set d (4224 + e) (get_or v 0 0)) (sender e) (get_or v 1 0))))))

-- a field with tag t and value v where event e or the first behaviour is due
unfoldable pub priority_at : ℕ → List ℕ → ℕ → List ℕ → EventRead
priority_at t v e d =
    pick (eqb t 1)
    (pick (leb 32 e) (event_read (Err Crowded) d) (signal_at v e d))
    (event_read (Ok None) d)

abbrev pub event_from : Field → List ℕ → ℕ → List ℕ → EventRead
event_from (Err r) v e d = event_read (Err r) d
event_from (Ok h) v e d = priority_at h.tag v e d

-- event e, or the first behaviour, at the front of s
unfoldable pub read_event : List ℕ → ℕ → List ℕ → EventRead
read_event s e d = event_from (field_of s (least_of s 1) (most_of s)) (part_of s (field_of s (least_of s 1) (most_of s))) e d

-- the events and the draft
abbrev pub EventsOut : Type 0
EventsOut = Result Events Refusal × List ℕ

abbrev pub events_out : Result Events Refusal → List ℕ → EventsOut
events_out r d = (r, d)

-- go on after an event; the events end at `at` where a behaviour stands
abbrev pub event_next : EventDue → List ℕ → ℕ → ℕ → (ℕ → EventsOut) → EventsOut
event_next (Ok (Some size)) d at e more = more size
event_next (Ok None) d at e more = events_out (listed at e) d
event_next (Err r) d at e more = events_out (Err r) d

-- the events of s from `at` on: the place after them and their number. The first number bounds their count
unfoldable pub read_events : ℕ → List ℕ → ℕ → ℕ → List ℕ → EventsOut
read_events zero s at e d = pick (eqb at (length s)) (events_out (listed at e) d) (events_out (Err Torn) d)
read_events (suc k) s at e d =
    pick (eqb at (length s)) (events_out (listed at e) d)
    (let o : EventRead = read_event (rest_from at s) e d in event_next o.0 o.1 at e (λ size. read_events k s (at + size) (e + 1) o.1))

-- the answer and the draft
abbrev pub Finish : Type 0
Finish = Result Counts Refusal × List ℕ

abbrev pub finished : Result Counts Refusal → List ℕ → Finish
finished r d = (r, d)

-- go on after a reading that is done; a fault is passed on
abbrev pub proceed : DoneRead → List ℕ → (ℕ → ℕ → Finish) → Finish
proceed (Ok r) d f = f r.size r.next
proceed (Err r) d f = finished (Err r) d

abbrev pub after_events : Result Events Refusal → List ℕ → (ℕ → ℕ → Finish) → Finish
after_events (Ok r) d f = f r.end r.count
after_events (Err r) d f = finished (Err r) d

-- the behaviours of s from `at` on, i before them and n nodes. The first number bounds their count
unfoldable pub behaviours_of : ℕ → List ℕ → ℕ → ℕ → ℕ → List ℕ → ℕ → Finish
behaviours_of zero s at events i d n = pick (eqb at (length s)) (finished (ready events i n) d) (finished (Err Torn) d)
behaviours_of (suc k) s at events i d n =
    pick (eqb at (length s)) (finished (ready events i n) d)
    (let o : Out = behaviour_of (rest_from at s) events i d n in
    proceed o.0 o.1 (λ size m. behaviours_of k s (at + size) events (i + cells_at (rest_from at s)) o.1 m))

-- the program in s, from the draft d
unfoldable pub read_on : List ℕ → List ℕ → Finish
read_on s d =
    let o : EventsOut = read_events (length s) s 0 0 d in
    after_events o.0 o.1 (λ at e. behaviours_of (length s) s at e 0 o.1 0)

-- bounds that are promised beside the equations, and that a refusal has a number
abbrev pub EventIn : ℕ → ℕ → EventDue → Type 0
EventIn size e (Ok (Some all)) = (4 ≤ all) × (all ≤ size) × (e < 32)
EventIn size e (Ok None) = Unit {0}
EventIn size e (Err r) = 0 < refusal_number r

abbrev pub EventsIn : ℕ → Result Events Refusal → Type 0
EventsIn size (Ok r) = (r.end ≤ size) × (r.count ≤ 32)
EventsIn size (Err r) = Unit {0}
