-- Laws of the turns over events: what an event's field writes, and one turn of each loop.
use Rattle.lib_base.proofs.Prelude.{ℕ, ◌≤◌, ◌<◌, ◌+◌, ◌-◌, suc, ◌*◌, ◌≡◌, refl, ◌∙◌, sym, ap, true, false, List, []}
use Rattle.lib_base.proofs.Prelude.{◌++◌, append_assoc, append-nil, length, take, drop, length-drop, length-take}
use Rattle.lib_base.proofs.Prelude.{length-take-le, take-length, eqb, ne_eqb, eq-eqb, arith}
use Rattle.lib_base.proofs.Tools.{split}
use Rattle.sheet_field.specs.Field.{Field, field_of, FieldWithin}
use Rattle.std.specs.Prelude.{Ok, Err}
use Rattle.spec_language.specs.declared.refusals.Refusal.{Refusal}
use Rattle.sheet_field.specs.declared.Header.{Header}
use Rattle.sheet_write.specs.Writes.{fitted, event_bytes}
use Rattle.sheet_write.proofs.Laws.{fitted_taken}
use Rattle.link_events.specs.Merging.{field_width, width_at, rank_at, sender_at, merged, pair_bytes, events_from, end_from, agree_from}
use Rattle.link_events.specs.Written.{BytesWritten}

-- ---- the field at a place, by the field reader

module _ (s : List ℕ) (i : ℕ) {a : Field} (e : a ≡ field_of (take (length s - i) (drop i s)) 1 1) where
  width_is : field_width a ≡ width_at s i
  unfolding width_at
  width_is =
      let all : take (length s - i) (drop i s) ≡ drop i s = ap (λ (n : ℕ). take n (drop i s)) (sym (length-drop i s)) ∙ take-length (drop i s) in
      ap field_width (e ∙ ap (λ (b : List ℕ). field_of b 1 1) all)

  pub width_none : {r : Refusal} → a ≡ Err r → 0 ≡ width_at s i
  width_none q = sym (ap field_width q) ∙ width_is

  pub width_some : {f : Header} → a ≡ Ok f → f.size + 3 ≡ width_at s i
  width_some q = sym (ap field_width q) ∙ width_is

pub width_fits : (s : List ℕ) (i : ℕ) {a : Field} {f : Header} → i ≤ length s → FieldWithin (take (length s - i) (drop i s)) a → a ≡ Ok f → i + (f.size + 3) ≤ length s
width_fits s i {a} {f} h w q =
    let v : f.size + 3 ≤ length (take (length s - i) (drop i s)) = rw q at w in
    omega (arith, simp (length-take, length-drop) at v)

-- ---- an event's field

event_few : (r m : ℕ) → length (event_bytes r m) ≤ 5
unfolding event_bytes
event_few r m = split (eqb m 256) (λ e. rw e (omega arith)) (λ e. rw e (omega arith))

pub event_within : (r m k n : ℕ) → n ≡ k + length (event_bytes r m) → n ≤ k + 5
event_within r m k n e = omega (arith, event_few r m)

pub event_written : (o o' : List ℕ) (k r m n : ℕ) → k + 5 ≤ length o → n ≡ k + length (event_bytes r m) → o' ≡ fitted o k (event_bytes r m) → BytesWritten o k (event_bytes r m) o' n
event_written o o' k r m n h e f =
    record { up_to = e; bytes = rw (f, e) (fitted_taken o k (event_bytes r m) (omega (arith, event_few r m))) }

-- ---- the field of one number

module _ (s t : List ℕ) (i a j b : ℕ) {o o' : List ℕ} {k n x y m r : ℕ} (p : x ≡ sender_at s i a) (q : y ≡ sender_at t j b) (z : m ≡ merged x y) where
  pub pair_first : (a ≡ 0 → ⊥) → r ≡ rank_at s i a → BytesWritten o k (event_bytes r m) o' n → BytesWritten o k (pair_bytes s i a t j b) o' n
  unfolding pair_bytes
  pair_first h g w = rw (ne_eqb a 0 h, ← p, ← q, ← z, ← g) w

  pub pair_second : a ≡ 0 → (b ≡ 0 → ⊥) → r ≡ rank_at t j b → BytesWritten o k (event_bytes r m) o' n → BytesWritten o k (pair_bytes s i a t j b) o' n
  unfolding pair_bytes
  pair_second h d g w = rw (eq-eqb a 0 h, ne_eqb b 0 d, ← p, ← q, ← z, ← g) w

pub pair_none : (s t : List ℕ) (i a j b : ℕ) {o : List ℕ} {k : ℕ} → a ≡ 0 → b ≡ 0 → BytesWritten o k (pair_bytes s i a t j b) o k
unfolding pair_bytes
pair_none s t i a j b {o} {k} h d = rw (eq-eqb a 0 h, eq-eqb b 0 d) (record { up_to = omega arith; bytes = sym (append-nil (take k o)) })

-- ---- the turns

pub record Turn (s t o₀ o : List ℕ) (i j k n : ℕ) : Type 0 where
  pub whole : take k o ++ events_from (32 - n) s i t j ≡ events_from 32 s 0 t 0
  pub in_s : i ≤ length s
  pub in_t : j ≤ length t
  pub few : k ≤ 5 * n
  pub turns : n ≤ 32
  pub room : 160 ≤ length o₀
  pub kept : length o ≡ length o₀

pub turn_start : (s t o : List ℕ) → 160 ≤ length o → Turn s t o o 0 0 0 0
turn_start s t o h = record { whole = refl; in_s = omega arith; in_t = omega arith; few = omega arith; turns = omega arith; room = h; kept = refl }

pub turn_on : {s t o₀ o o' : List ℕ} {i j k n a b k' : ℕ} → Turn s t o₀ o i j k n → n < 32
    → a ≡ width_at s i → i + a ≤ length s → b ≡ width_at t j → j + b ≤ length t
    → BytesWritten o k (pair_bytes s i a t j b) o' k' → k' ≤ k + 5 → length o' ≡ length o → Turn s t o₀ o' (i + a) (j + b) k' (n + 1)
unfolding events_from
turn_on {s} {t} {o₀} {o} {o'} {i} {j} {k} {n} {a} {b} {k'} u h p x q y w l c =
    let z : 32 - n ≡ suc (32 - (n + 1)) = omega arith in
    let e : events_from (32 - n) s i t j ≡ pair_bytes s i a t j b ++ events_from (32 - (n + 1)) s (i + a) t (j + b) =
    ap (λ (m : ℕ). events_from m s i t j) z ∙ rw (p, q) in
    record {
      whole = ap (λ (v : List ℕ). v ++ events_from (32 - (n + 1)) s (i + a) t (j + b)) w.bytes
          ∙ append_assoc (take k o) (pair_bytes s i a t j b) (events_from (32 - (n + 1)) s (i + a) t (j + b))
          ∙ ap (λ (v : List ℕ). take k o ++ v) (sym e)
          ∙ u.whole;
      in_s = x;
      in_t = y;
      few = omega (arith, u.few);
      turns = omega arith;
      room = u.room;
      kept = c ∙ u.kept;
    }

none_left : (s t : List ℕ) (i j : ℕ) → events_from 0 s i t j ≡ []
unfolding events_from
none_left s t i j = refl

written : (o₀ o l : List ℕ) (k : ℕ) → k ≤ length o → take k o ≡ l → BytesWritten o₀ 0 l o k
written o₀ o l k h e = let z : length l ≡ k = sym (ap length e) ∙ length-take-le k o h in record { up_to = omega arith; bytes = e }

pub turn_end : {s t o₀ o : List ℕ} {i j k n : ℕ} → Turn s t o₀ o i j k n → 32 ≤ n → BytesWritten o₀ 0 (events_from 32 s 0 t 0) o k × (k ≤ 160)
turn_end {s} {t} {o₀} {o} {i} {j} {k} {n} u h =
    let z : 32 - n ≡ 0 = omega arith in
    let e : take k o ≡ events_from 32 s 0 t 0 = sym (append-nil (take k o)) ∙ ap (λ (v : List ℕ). take k o ++ v) (sym (ap (λ (m : ℕ). events_from m s i t j) z ∙ none_left s t i j)) ∙ u.whole in
    (written o₀ o (events_from 32 s 0 t 0) k (omega (arith, u.few, u.turns, u.room, u.kept)) e, omega (arith, u.few, u.turns))

-- the place after the events
pub record Passed (s : List ℕ) (i n : ℕ) : Type 0 where
  pub whole : end_from (32 - n) s i ≡ end_from 32 s 0
  pub inside : i ≤ length s
  pub turns : n ≤ 32

pub passed_on : {s : List ℕ} {i n a : ℕ} → Passed s i n → n < 32 → a ≡ width_at s i → i + a ≤ length s → Passed s (i + a) (n + 1)
unfolding end_from
passed_on {s} {i} {n} {a} u h p x =
    let z : 32 - n ≡ suc (32 - (n + 1)) = omega arith in
    record { whole = sym (ap (λ (m : ℕ). end_from m s i) z ∙ rw p) ∙ u.whole; inside = x; turns = omega arith }

pub passed_end : {s : List ℕ} {i n : ℕ} → Passed s i n → 32 ≤ n → (i ≡ end_from 32 s 0) × (i ≤ length s)
unfolding end_from
passed_end {s} {i} {n} u h = let z : 32 - n ≡ 0 = omega arith in (sym (ap (λ (m : ℕ). end_from m s i) z) ∙ u.whole, u.inside)

-- the ranks
pub record Agreed (s t : List ℕ) (i j n : ℕ) : Type 0 where
  pub whole : agree_from (32 - n) s i t j ≡ agree_from 32 s 0 t 0
  pub in_s : i ≤ length s
  pub in_t : j ≤ length t
  pub turns : n ≤ 32

module _ {s t : List ℕ} {i j n a b : ℕ} (u : Agreed s t i j n) (h : n < 32) (p : a ≡ width_at s i) (q : b ≡ width_at t j) where
  opened : agree_from 32 s 0 t 0 ≡ agree_from (suc (32 - (n + 1))) s i t j
  opened = let z : 32 - n ≡ suc (32 - (n + 1)) = omega arith in sym u.whole ∙ ap (λ (m : ℕ). agree_from m s i t j) z

  pub agree_first : a ≡ 0 → true ≡ agree_from 32 s 0 t 0
  unfolding agree_from
  agree_first e = sym (opened ∙ rw (← p, eq-eqb a 0 e))

  pub agree_second : (a ≡ 0 → ⊥) → b ≡ 0 → true ≡ agree_from 32 s 0 t 0
  unfolding agree_from
  agree_second d e = sym (opened ∙ rw (← p, ← q, ne_eqb a 0 d, eq-eqb b 0 e))

  module _ {x y : ℕ} (d : a ≡ 0 → ⊥) (e : b ≡ 0 → ⊥) (f : x ≡ rank_at s i a) (g : y ≡ rank_at t j b) where
    pub agree_not : (x ≡ y → ⊥) → false ≡ agree_from 32 s 0 t 0
    unfolding agree_from
    agree_not z = sym (opened ∙ rw (← p, ← q, ne_eqb a 0 d, ne_eqb b 0 e, ← f, ← g, ne_eqb x y z))

    pub agree_on : x ≡ y → i + a ≤ length s → j + b ≤ length t → Agreed s t (i + a) (j + b) (n + 1)
    unfolding agree_from
    agree_on z v w = record {
      whole = sym (opened ∙ rw (← p, ← q, ne_eqb a 0 d, ne_eqb b 0 e, ← f, ← g, eq-eqb x y z));
      in_s = v;
      in_t = w;
      turns = omega arith;
    }

pub agree_end : {s t : List ℕ} {i j n : ℕ} → Agreed s t i j n → 32 ≤ n → true ≡ agree_from 32 s 0 t 0
unfolding agree_from
agree_end {s} {t} {i} {j} {n} u h = let z : 32 - n ≡ 0 = omega arith in sym (ap (λ (m : ℕ). agree_from m s i t j) z) ∙ u.whole
