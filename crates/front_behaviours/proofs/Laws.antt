-- Laws of `handlers_of` that the loop over handlers cites, and what it keeps. Assumes nothing.
use Rattle.std.specs.Prelude.{Ok, Err}
use Rattle.lib_base.proofs.Prelude.{ℕ, ◌≤◌, ◌+◌, ◌-◌, suc, zero, ◌*◌, ◌≡◌, List, length, get_or, eq-eqb, ne_eqb, sub-one, arith}
use Rattle.spec_language.specs.declared.refusals.Refusal.{Refusal}
use Rattle.front_field.specs.Expression.{DoneRead, done, out, rest_from, ReadIn}
use Rattle.front_field.specs.declared.Done.{Done}
use Rattle.front_field.proofs.RestLaws.{rest_length}
use Rattle.front_behaviours.specs.Handler.{handler_of, handlers_of}

pub record HandlerTurn (v : List ℕ) (events i : ℕ) (d₀ : List ℕ) (n : ℕ) (d : List ℕ) (at m : ℕ) : Type 0 where
  pub fuel : ℕ
  pub whole : handlers_of fuel v at events i d m ≡ handlers_of (length v) v 7 events i d₀ n
  pub enough : length v ≤ at + fuel
  pub begun : 7 ≤ at
  pub reached : at ≤ length v
  pub nodes : m * 4 ≤ n * 4 + at
  pub onwards : n ≤ m
  pub room : n * 4 + length v ≤ 8192

module _ (v : List ℕ) (at events i : ℕ) (d : List ℕ) (m : ℕ) {r : DoneRead} {p : List ℕ} (h : at ≡ length v → ⊥) (q : get_or v at 0 ≡ 8 → ⊥) (g : at ≤ length v)
    (e : out r p ≡ handler_of (rest_from at v) events i d m) where
  handlers_done : (k : ℕ) {r₁ : Done} → length v ≤ at + k → r ≡ Ok r₁ → handlers_of k v at events i d m ≡ handlers_of (k - 1) v (at + r₁.size) events i p r₁.next
  unfolding handlers_of
  handlers_done zero b t = absurd (h (omega arith))
  handlers_done (suc k) b t = rw (ne_eqb at (length v) h, ne_eqb (get_or v at 0) 8 q, sub-one, ← e, t)

  handlers_fault : (k : ℕ) {j : Refusal} → length v ≤ at + k → r ≡ Err j → handlers_of k v at events i d m ≡ out (Err j) p
  unfolding handlers_of
  handlers_fault zero b t = absurd (h (omega arith))
  handlers_fault (suc k) b t = rw (ne_eqb at (length v) h, ne_eqb (get_or v at 0) 8 q, ← e, t)

handlers_end : (k : ℕ) (v : List ℕ) (at events i : ℕ) (d : List ℕ) (m : ℕ) → at ≡ length v → handlers_of k v at events i d m ≡ out (done at m) d
unfolding handlers_of
handlers_end zero v at events i d m h = rw (eq-eqb at (length v) h)
handlers_end (suc k) v at events i d m h = rw (eq-eqb at (length v) h)

handlers_eight : (k : ℕ) (v : List ℕ) (at events i : ℕ) (d : List ℕ) (m : ℕ) → (at ≡ length v → ⊥) → get_or v at 0 ≡ 8 → handlers_of k v at events i d m ≡ out (done at m) d
unfolding handlers_of
handlers_eight zero v at events i d m h q = rw (ne_eqb at (length v) h, eq-eqb (get_or v at 0) 8 q)
handlers_eight (suc k) v at events i d m h q = rw (ne_eqb at (length v) h, eq-eqb (get_or v at 0) 8 q)

module _ {v : List ℕ} {events i : ℕ} {d₀ : List ℕ} {n : ℕ} {d : List ℕ} {at m : ℕ} (t : HandlerTurn v events i d₀ n d at m) where
  pub handler_stops : {r : DoneRead} {p : List ℕ} {j : Refusal} → (at ≡ length v → ⊥) → (get_or v at 0 ≡ 8 → ⊥) → out r p ≡ handler_of (rest_from at v) events i d m → r ≡ Err j
      → out (Err j) p ≡ handlers_of (length v) v 7 events i d₀ n
  handler_stops h q e f = rw (handlers_fault v at events i d m h q t.reached e t.fuel t.enough f) at t.whole

  pub handler_turns : {r : DoneRead} {p : List ℕ} {r₁ : Done} → (at ≡ length v → ⊥) → (get_or v at 0 ≡ 8 → ⊥) → out r p ≡ handler_of (rest_from at v) events i d m → r ≡ Ok r₁
      → ReadIn (length (rest_from at v)) m r → HandlerTurn v events i d₀ n p (at + r₁.size) r₁.next
  handler_turns {r₁} h q₈ e f b =
      let b' : ReadIn (length (rest_from at v)) m (Ok r₁) = rw f at b in
      let q = rest_length at v in
      let enough = t.enough in
      let reached = t.reached in
      let nodes = t.nodes in
      let onwards = t.onwards in
      let begun = t.begun in
      record {
        fuel = t.fuel - 1;
        whole = rw (← handlers_done v at events i d m h q₈ t.reached e t.fuel t.enough f) t.whole;
        enough = omega arith;
        begun = omega arith;
        reached = omega arith;
        nodes = omega arith;
        onwards = omega arith;
        room = t.room;
      }

  within : ReadIn (length v) n (done at m)
  within = (omega (arith, t.begun), t.reached, t.nodes, t.onwards)

  pub handler_ends : at ≡ length v → (out (done at m) d ≡ handlers_of (length v) v 7 events i d₀ n) × ReadIn (length v) n (done at m)
  handler_ends h = (rw (handlers_end t.fuel v at events i d m h) at t.whole, within)

  pub handler_eight : (at ≡ length v → ⊥) → get_or v at 0 ≡ 8 → (out (done at m) d ≡ handlers_of (length v) v 7 events i d₀ n) × ReadIn (length v) n (done at m)
  handler_eight h q = (rw (handlers_eight t.fuel v at events i d m h q) at t.whole, within)
