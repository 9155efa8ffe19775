-- The hand in the bytes at a change: its events are declared in the new table exactly if they are in the new program,
-- and the running one goes back to it. Slot by slot.
use Rattle.lib_base.proofs.Prelude.{ℕ, ◌≤◌, ◌<◌, ◌+◌, suc, zero, ◌≡◌, refl, ◌∙◌, true, false, Bool, List, ◌∷◌}
use Rattle.lib_base.proofs.Prelude.{List-as-Permᴰ, List·Permᴰ·trans, List·Permᴰ·cons, List·Permᴰ·swap, List·Permᴰ·nil}
use Rattle.lib_base.proofs.Prelude.{length, ltb, arith}
use Rattle.lib_base.specs.Basics.{pick}
use Rattle.lib_word.specs.Word.{get}
use Rattle.lib_word.proofs.Laws.{long}
use Rattle.spec_language.specs.Syntax.{Program}
use Rattle.spec_language.specs.Dependence.{events}
use Rattle.spec_model.specs.Model.{Arrival, Running, rest, busy, queue, declared_in}
use Rattle.spec_model.proofs.Choice.{perm_length}
use Rattle.run_queue.specs.Queue.{put_slot}
use Rattle.run_mend.specs.Mending.{waiting_known, known_with, hand_known, back_in_hand, rested}
use Rattle.refine_calls.specs.Refinement.{arrival_of, slots, Kept}
use Rattle.refine_calls.proofs.Slots.{slots_length, slots_push, reads, kept_all, kept_put, kept_slot}
use Rattle.refine_calls.proofs.Relation.{RunIs}

-- ---- tests

both_ways : (a b : Bool) → pick a b false ≡ pick b a false
both_ways true true = refl
both_ways true false = refl
both_ways false true = refl
both_ways false false = refl

itself : (a : Bool) → pick a true false ≡ a
itself true = refl
itself false = refl

swapped : (a b c : Bool) → pick a (pick b c false) false ≡ pick b (pick a c false) false
swapped true true c = refl
swapped true false c = refl
swapped false true c = refl
swapped false false c = refl

-- ---- declared events

declared_perm : (q : Program) {l m : List Arrival} → List-as-Permᴰ l m → declared_in q l ≡ declared_in q m
declared_perm q List·Permᴰ·nil = refl
declared_perm q (List·Permᴰ·cons e d) = λ i. pick (ltb (e i).event (events q)) (declared_perm q d i) false
declared_perm q (List·Permᴰ·swap {a = a} {b = b} {l = l} e f) =
    swapped (ltb a.event (events q)) (ltb b.event (events q)) (declared_in q l)
    ∙ (λ i. pick (ltb (f i).event (events q)) (pick (ltb (e i).event (events q)) (declared_in q l) false) false)
declared_perm q (List·Permᴰ·trans d e) = declared_perm q d ∙ declared_perm q e

waiting_known_law : (q : Program) (l : List ℕ) (n : ℕ) → waiting_known l (events q) n ≡ declared_in q (slots l n)
unfolding waiting_known slots
waiting_known_law q l zero = refl
waiting_known_law q l (suc n) = rw (waiting_known_law q l n)

pub hand_known_law : (q : Program) (u l : List ℕ) (waiting : List Arrival) (r : Running) → get u 0 ≡ events q → List-as-Permᴰ (slots l (get l 1)) waiting → RunIs l r
    → hand_known u l ≡ declared_in q (queue waiting r)
unfolding hand_known known_with
hand_known_law q u l waiting rest e d h =
    rw (e, h, waiting_known_law q l (get l 1), declared_perm q d) (itself (declared_in q waiting))
hand_known_law q u l waiting (busy a c) e d h =
    rw (e, h.0, h.1, waiting_known_law q l (get l 1), declared_perm q d) (both_ways (declared_in q waiting) (ltb a.event (events q)))

-- ---- the running one goes back

-- the round's head and hand after it: nothing runs
abbrev pub back_of : List ℕ → List ℕ
back_of l = rested (back_in_hand l (get l 1) (get l 2) (get l 4) (get l 3))

pub record Back (l m : List ℕ) (k : ℕ) (hand : List Arrival) : Type 0 where
  pub whole : long m ≡ true
  pub few : get m 1 ≤ 64
  pub number : get m 0 ≡ k
  pub queue : List-as-Permᴰ (slots m (get m 1)) hand
  pub none : get m 2 ≡ 0
  pub empty : get m 6 ≡ 0
  pub unmarked : get m 7 ≡ 0
  pub kept : Kept l m

signed : (l : List ℕ) (a : Arrival) (c : ℕ) → RunIs l (busy a c) → arrival_of (get l 4) (get l 3) ≡ a
signed l a c h = λ i. record { number = h.2 i; event = h.1 i; player = h.4 i }

kept_rested : {l : List ℕ} (m : List ℕ) → Kept l m → Kept l (rested m)
unfolding rested
kept_rested m h = kept_put _ 7 0 (omega arith) (kept_put _ 6 0 (omega arith) (kept_put m 2 0 (omega arith) h))

pub back : (l : List ℕ) (k : ℕ) (waiting : List Arrival) (r : Running) → long l ≡ true → get l 0 ≡ k → List-as-Permᴰ (slots l (get l 1)) waiting → RunIs l r
    → length (queue waiting r) ≤ 64 → Back l (back_of l) k (queue waiting r)
unfolding back_in_hand rested
back l k waiting rest g n d h few =
    let c : get l 1 ≤ 64 = omega (arith, slots_length l (get l 1), perm_length d) in
    rw h
    (record {
      whole = simp reads g;
      few = simp (reads, g) c;
      number = simp (reads, g) n;
      queue = simp (reads, g) d;
      none = simp (reads, g);
      empty = simp (reads, g);
      unmarked = simp (reads, g);
      kept = kept_rested l (kept_all l);
    })
back l k waiting (busy a c) g n d h few =
    let room : get l 1 < 64 = omega (arith, slots_length l (get l 1), perm_length d) in
    let p : List-as-Permᴰ (slots (put_slot l (get l 1) (get l 4) (get l 3)) (get l 1 + 1)) (a ∷ waiting) =
    rw (slots_push l (get l 1) (get l 4) (get l 3) g room) (List·Permᴰ·cons (signed l a c h) d) in
    rw h.0
    (record {
      whole = simp reads g;
      few = simp (reads, g) (omega arith);
      number = simp (reads, g) n;
      queue = simp (reads, g) p;
      none = simp (reads, g);
      empty = simp (reads, g);
      unmarked = simp (reads, g);
      kept = kept_rested _ (kept_put _ 1 (get l 1 + 1) (omega arith) (kept_slot l (get l 1) (get l 4) (get l 3) room (kept_all l)));
    })
