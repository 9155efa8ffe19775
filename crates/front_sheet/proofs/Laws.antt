-- Laws of the reader's loops that its proofs cite, and what the loops keep: what is left gives the whole, and there is
-- room.
use Rattle.std.specs.Prelude.{Some, None, Ok, Err}
use Rattle.lib_base.proofs.Prelude.{ℕ, ◌≤◌, ◌<◌, ◌+◌, ◌-◌, suc, zero, ◌*◌, ◌≡◌, List, length, sub-one, ne_eqb, eq-eqb, arith}
use Rattle.spec_language.specs.declared.refusals.Refusal.{Refusal}
use Rattle.front_field.proofs.RestLaws.{rest_length}
use Rattle.front_field.specs.Expression.{DoneRead, out, rest_from, ReadIn}
use Rattle.front_field.specs.declared.Done.{Done}
use Rattle.front_rows.specs.Cells.{cells_at}
use Rattle.front_behaviours.specs.Behaviour.{behaviour_of, Counted}
use Rattle.front_sheet.specs.Whole.{EventDue, event_read, read_event, listed, events_out, read_events, ready, finished, behaviours_of, EventIn, EventsIn}

-- ---- the loop over events

pub record EventTurn (s d₀ d : List ℕ) (at e : ℕ) : Type 0 where
  pub fuel : ℕ
  pub whole : read_events fuel s at e d ≡ read_events (length s) s 0 0 d₀
  pub enough : length s ≤ at + fuel
  pub reached : at ≤ length s
  pub few : e ≤ 32
  pub room : length s ≤ 8192

module _ (s : List ℕ) (at e : ℕ) (d : List ℕ) {r : EventDue} {p : List ℕ} (h : at ≡ length s → ⊥) (g : at ≤ length s)
    (w : event_read r p ≡ read_event (rest_from at s) e d) where
  events_more : (k : ℕ) {size : ℕ} → length s ≤ at + k → r ≡ Ok (Some size) → read_events k s at e d ≡ read_events (k - 1) s (at + size) (e + 1) p
  unfolding read_events
  events_more zero b t = absurd (h (omega arith))
  events_more (suc k) b t = rw (ne_eqb at (length s) h, sub-one, ← w, t)

  events_ended : (k : ℕ) → length s ≤ at + k → r ≡ Ok None → read_events k s at e d ≡ events_out (listed at e) p
  unfolding read_events
  events_ended zero b t = absurd (h (omega arith))
  events_ended (suc k) b t = rw (ne_eqb at (length s) h, ← w, t)

  events_fault_law : (k : ℕ) {j : Refusal} → length s ≤ at + k → r ≡ Err j → read_events k s at e d ≡ events_out (Err j) p
  unfolding read_events
  events_fault_law zero b t = absurd (h (omega arith))
  events_fault_law (suc k) b t = rw (ne_eqb at (length s) h, ← w, t)

events_none : (k : ℕ) (s : List ℕ) (at e : ℕ) (d : List ℕ) → at ≡ length s → read_events k s at e d ≡ events_out (listed at e) d
unfolding read_events
events_none zero s at e d h = rw (eq-eqb at (length s) h)
events_none (suc k) s at e d h = rw (eq-eqb at (length s) h)

module _ {s d₀ d : List ℕ} {at e : ℕ} (t : EventTurn s d₀ d at e) where
  pub event_stops : {r : EventDue} {p : List ℕ} {j : Refusal} → (at ≡ length s → ⊥) → event_read r p ≡ read_event (rest_from at s) e d → r ≡ Err j
      → events_out (Err j) p ≡ read_events (length s) s 0 0 d₀
  event_stops h w f = rw (events_fault_law s at e d h t.reached w t.fuel t.enough f) at t.whole

  pub event_ends : {r : EventDue} {p : List ℕ} → (at ≡ length s → ⊥) → event_read r p ≡ read_event (rest_from at s) e d → r ≡ Ok None
      → (events_out (listed at e) p ≡ read_events (length s) s 0 0 d₀) × EventsIn (length s) (listed at e)
  event_ends h w f = (rw (events_ended s at e d h t.reached w t.fuel t.enough f) at t.whole, (t.reached, t.few))

  pub event_turns : {r : EventDue} {p : List ℕ} {size : ℕ} → (at ≡ length s → ⊥) → event_read r p ≡ read_event (rest_from at s) e d → r ≡ Ok (Some size)
      → EventIn (length (rest_from at s)) e r → EventTurn s d₀ p (at + size) (e + 1)
  event_turns {size = size} h w f b =
      let b' : EventIn (length (rest_from at s)) e (Ok (Some size)) = rw f at b in
      let q = rest_length at s in
      let enough = t.enough in
      let reached = t.reached in
      record {
        fuel = t.fuel - 1;
        whole = rw (← events_more s at e d h t.reached w t.fuel t.enough f) t.whole;
        enough = omega arith;
        reached = omega arith;
        few = omega arith;
        room = t.room;
      }

  pub events_over : at ≡ length s → (events_out (listed at e) d ≡ read_events (length s) s 0 0 d₀) × EventsIn (length s) (listed at e)
  events_over h = (rw (events_none t.fuel s at e d h) at t.whole, (t.reached, t.few))

-- ---- the loop over behaviours

pub record BehaviourTurn (s : List ℕ) (from events : ℕ) (d₀ d : List ℕ) (at i n : ℕ) : Type 0 where
  pub fuel : ℕ
  pub whole : behaviours_of fuel s at events i d n ≡ behaviours_of (length s) s from events 0 d₀ 0
  pub enough : length s ≤ at + fuel
  pub reached : at ≤ length s
  pub nodes : n * 4 ≤ at
  pub few : i ≤ 319
  pub room : length s ≤ 8192

module _ (s : List ℕ) (at events i : ℕ) (d : List ℕ) (n : ℕ) {r : DoneRead} {p : List ℕ} (h : at ≡ length s → ⊥) (g : at ≤ length s)
    (w : out r p ≡ behaviour_of (rest_from at s) events i d n) where
  behaviours_more : (k : ℕ) {b : Done} → length s ≤ at + k → r ≡ Ok b → behaviours_of k s at events i d n ≡ behaviours_of (k - 1) s (at + b.size) events (i + cells_at (rest_from at s)) p b.next
  unfolding behaviours_of
  behaviours_more zero b t = absurd (h (omega arith))
  behaviours_more (suc k) b t = rw (ne_eqb at (length s) h, sub-one, ← w, t)

  behaviours_fault : (k : ℕ) {j : Refusal} → length s ≤ at + k → r ≡ Err j → behaviours_of k s at events i d n ≡ finished (Err j) p
  unfolding behaviours_of
  behaviours_fault zero b t = absurd (h (omega arith))
  behaviours_fault (suc k) b t = rw (ne_eqb at (length s) h, ← w, t)

behaviours_none : (k : ℕ) (s : List ℕ) (at events i : ℕ) (d : List ℕ) (n : ℕ) → at ≡ length s → behaviours_of k s at events i d n ≡ finished (ready events i n) d
unfolding behaviours_of
behaviours_none zero s at events i d n h = rw (eq-eqb at (length s) h)
behaviours_none (suc k) s at events i d n h = rw (eq-eqb at (length s) h)

module _ {s : List ℕ} {from events : ℕ} {d₀ d : List ℕ} {at i n : ℕ} (t : BehaviourTurn s from events d₀ d at i n) where
  pub behaviour_stops : {r : DoneRead} {p : List ℕ} {j : Refusal} → (at ≡ length s → ⊥) → out r p ≡ behaviour_of (rest_from at s) events i d n → r ≡ Err j
      → finished (Err j) p ≡ behaviours_of (length s) s from events 0 d₀ 0
  behaviour_stops h w f = rw (behaviours_fault s at events i d n h t.reached w t.fuel t.enough f) at t.whole

  pub behaviour_turns : {r : DoneRead} {p : List ℕ} {b : Done} → (at ≡ length s → ⊥) → out r p ≡ behaviour_of (rest_from at s) events i d n → r ≡ Ok b
      → ReadIn (length (rest_from at s)) n r → Counted i r → {z : ℕ} → z ≡ cells_at (rest_from at s) → z < 256 → BehaviourTurn s from events d₀ p (at + b.size) (i + z) b.next
  behaviour_turns {b} h w f g c y x =
      let g' : ReadIn (length (rest_from at s)) n (Ok b) = rw f at g in
      let c' : Counted i (Ok b) = rw f at c in
      let q = rest_length at s in
      let enough = t.enough in
      let reached = t.reached in
      let nodes = t.nodes in
      record {
        fuel = t.fuel - 1;
        whole = rw (y, ← behaviours_more s at events i d n h t.reached w t.fuel t.enough f) t.whole;
        enough = omega arith;
        reached = omega arith;
        nodes = omega arith;
        few = omega arith;
        room = t.room;
      }

  pub behaviours_end : at ≡ length s → finished (ready events i n) d ≡ behaviours_of (length s) s from events 0 d₀ 0
  behaviours_end h = rw (behaviours_none t.fuel s at events i d n h) at t.whole
