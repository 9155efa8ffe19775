-- The queue and the head of the round in the bytes, and what each write leaves of them. Word by word from the laws of
-- `put`.
use Rattle.lib_base.proofs.Prelude.{ℕ, ◌≤◌, ◌<◌, ◌+◌, suc, zero, ◌*◌, ◌≡◌, refl, ◌∙◌, sym, ap, subst, true, ◌≢◌, List, ◌∷◌}
use Rattle.lib_base.proofs.Prelude.{List-as-Permᴰ, List·Permᴰ·trans, List·Permᴰ·cons, List·Permᴰ·swap, Permᴰ·refl, length}
use Rattle.lib_base.proofs.Prelude.{get_or, get_or-set_other, eqb, ltb, add-one, eqb-true, eqb-false, ltb-true, leb-true}
use Rattle.lib_base.proofs.Prelude.{arith}
use Rattle.lib_base.specs.Basics.{pick}
use Rattle.lib_base.proofs.Tools.{split}
use Rattle.lib_word.specs.Word.{get, put}
use Rattle.lib_word.proofs.Laws.{long, length_put, long_put, get_put, get_other, get_same}
use Rattle.spec_model.specs.Model.{Arrival}
use Rattle.format_layout.specs.Layout.{number_at, word_at}
use Rattle.run_queue.specs.Queue.{put_slot}
use Rattle.run_dispatch.specs.Dispatch.{run_arrival}
use Rattle.refine_calls.specs.Refinement.{arrival_of, slots, Kept}

abbrev pub slot : List ℕ → ℕ → Arrival
slot l i = arrival_of (number_at l i) (word_at l i)

pub slots_length : (l : List ℕ) (n : ℕ) → length (slots l n) ≡ n
unfolding slots
slots_length l zero = refl
slots_length l (suc n) = ap suc (slots_length l n)

same_arrival : {n m e f : ℕ} → n ≡ m → e ≡ f → arrival_of n e ≡ arrival_of m f
same_arrival p q = λ i. arrival_of (p i) (q i)

-- two rounds whose queues are the same words
pub slots_same : (l m : List ℕ) (n : ℕ) → n ≤ 64 → ((j : ℕ) → 8 ≤ j → j < 136 → get m j ≡ get l j) → slots m n ≡ slots l n
unfolding slots
slots_same l m zero b h = refl
slots_same l m (suc n) b h =
    rw (h (8 + n * 2) (omega arith) (omega arith), h (9 + n * 2) (omega arith) (omega arith), slots_same l m n (omega arith) h)

-- a write below the queue
pub slots_off : (l : List ℕ) (k w n : ℕ) → ltb k 8 ≡ true → slots (put l k w) n ≡ slots l n
unfolding slots
slots_off l k w zero h = refl
slots_off l k w (suc n) h =
    rw (
      get_other l k w (8 + n * 2) (omega (arith, ltb-true)),
      get_other l k w (9 + n * 2) (omega (arith, ltb-true)),
      slots_off l k w n h,
    )

-- ---- a slot is written

pub slot_long : (l : List ℕ) (i n e : ℕ) → long (put_slot l i n e) ≡ long l
unfolding put_slot
slot_long l i n e = simp long_put

pub slot_head : (l : List ℕ) (i n e k : ℕ) → ltb k 8 ≡ true → get (put_slot l i n e) k ≡ get l k
unfolding put_slot
slot_head l i n e k h =
    get_other (put l (8 + i * 2) n) (9 + i * 2) e k (omega (arith, ltb-true)) ∙ get_other l (8 + i * 2) n k (omega (arith, ltb-true))

slot_same : (l : List ℕ) (i n e : ℕ) → long l ≡ true → i < 64 → slot (put_slot l i n e) i ≡ arrival_of n e
unfolding put_slot long
slot_same l i n e h b =
    same_arrival
    (get_other (put l (8 + i * 2) n) (9 + i * 2) e (8 + i * 2) (omega arith) ∙ get_same l (8 + i * 2) n (omega (arith, leb-true)))
    (get_same (put l (8 + i * 2) n) (9 + i * 2) e (omega (arith, leb-true, long_put l (8 + i * 2) n ∙ h)))

slot_other : (l : List ℕ) (i n e j : ℕ) → j ≢ i → slot (put_slot l i n e) j ≡ slot l j
unfolding put_slot
slot_other l i n e j d =
    same_arrival
    (get_other (put l (8 + i * 2) n) (9 + i * 2) e (8 + j * 2) (omega arith) ∙ get_other l (8 + i * 2) n (8 + j * 2) (omega arith))
    (get_other (put l (8 + i * 2) n) (9 + i * 2) e (9 + j * 2) (omega arith) ∙ get_other l (8 + i * 2) n (9 + j * 2) (omega arith))

-- above the first n slots
slots_above : (l : List ℕ) (i m e n : ℕ) → n ≤ i → slots (put_slot l i m e) n ≡ slots l n
unfolding slots
slots_above l i m e zero h = refl
slots_above l i m e (suc n) h = λ k. slot_other l i m e n (omega arith) k ∷ slots_above l i m e n (omega arith) k

-- among them: it changes places with what was there
pub slots_swap : (l : List ℕ) (i m e n : ℕ) → long l ≡ true → n ≤ 64 → i < n
    → List-as-Permᴰ (arrival_of m e ∷ slots l n) (slot l i ∷ slots (put_slot l i m e) n)
unfolding slots
slots_swap l i m e zero g b h = absurd (omega arith)
slots_swap l i m e (suc n) g b h =
    split (eqb i n)
    (λ p.
    subst (λ (j : ℕ). List-as-Permᴰ (arrival_of m e ∷ slots l (suc n)) (slot l j ∷ slots (put_slot l j m e) (suc n)))
    (sym (eqb-true i n p))
    (rw (slots_above l n m e n (omega arith)) (List·Permᴰ·swap (sym (slot_same l n m e g (omega arith))) refl)))
    (λ p.
    let d : i ≢ n = eqb-false i n p in
    List·Permᴰ·trans (List·Permᴰ·swap refl refl)
    (List·Permᴰ·trans (List·Permᴰ·cons refl (slots_swap l i m e n g (omega arith) (omega arith)))
    (List·Permᴰ·swap (sym (slot_other l i m e n (omega arith))) refl)))

-- the last of the first m + 1 slots moves to i
pub take_out : (l : List ℕ) (i m : ℕ) → long l ≡ true → suc m ≤ 64 → i ≤ m
    → List-as-Permᴰ (slots l (suc m)) (slot l i ∷ slots (put_slot l i (number_at l m) (word_at l m)) m)
unfolding slots
take_out l i m g b h =
    split (eqb i m)
    (λ p. rw (eqb-true i m p, slots_above l m (number_at l m) (word_at l m) m (omega arith)) (Permᴰ·refl (slot l m ∷ slots l m)))
    (λ p. let d : i ≢ m = eqb-false i m p in slots_swap l i (number_at l m) (word_at l m) m g (omega arith) (omega arith))

-- the first free slot is filled
pub slots_push : (l : List ℕ) (n m e : ℕ) → long l ≡ true → n < 64 → slots (put_slot l n m e) (n + 1) ≡ arrival_of m e ∷ slots l n
unfolding slots
slots_push l n m e g h = rw add-one (λ k. slot_same l n m e g h k ∷ slots_above l n m e n (omega arith) k)

-- ---- something starts to run

pub run_long : (l : List ℕ) (n e : ℕ) → long (run_arrival l n e) ≡ long l
unfolding run_arrival
run_long l n e = simp long_put

pub run_slots : (l : List ℕ) (n e m : ℕ) → slots (run_arrival l n e) m ≡ slots l m
unfolding run_arrival
run_slots l n e m = simp slots_off

-- the head, word by word
pub run_head : (l : List ℕ) (n e j : ℕ) → long l ≡ true
    → get (run_arrival l n e) j ≡ pick (eqb j 7) 0 (pick (eqb j 6) 0 (pick (eqb j 5) 0 (pick (eqb j 4) n (pick (eqb j 3) e (pick (eqb j 2) 1 (get l j))))))
unfolding run_arrival
run_head l n e j h = simp (get_put, long_put, h)

pub ruleset reads = (get_put, long_put, slots_off, slot_long, slot_head, run_long, run_slots, run_head)

-- ---- bytes beyond the round

pub kept_all : (l : List ℕ) → Kept l l
kept_all l = record { as_long = refl; beyond = λ j h. refl }

beyond_put : (l : List ℕ) (k w i : ℕ) → k < 512 → 2048 ≤ i → get_or (put l k w) i 0 ≡ get_or l i 0
unfolding put
beyond_put l k w i g h =
    let a : i ≢ k * 4 = omega arith in
    let b : i ≢ k * 4 + 1 = omega arith in
    let c : i ≢ k * 4 + 2 = omega arith in
    let d : i ≢ k * 4 + 3 = omega arith in
    simp get_or-set_other

pub kept_put : {l : List ℕ} (m : List ℕ) (k w : ℕ) → k < 512 → Kept l m → Kept l (put m k w)
kept_put m k w b h = record { as_long = length_put m k w ∙ h.as_long; beyond = λ j g. beyond_put m k w j b g ∙ h.beyond j g }

pub kept_trans : {l m n : List ℕ} → Kept l m → Kept m n → Kept l n
kept_trans h g = record { as_long = g.as_long ∙ h.as_long; beyond = λ j b. g.beyond j b ∙ h.beyond j b }

pub kept_slot : {l : List ℕ} (m : List ℕ) (i n e : ℕ) → i < 64 → Kept l m → Kept l (put_slot m i n e)
unfolding put_slot
kept_slot m i n e b h = kept_put (put m (8 + i * 2) n) (9 + i * 2) e (omega arith) (kept_put m (8 + i * 2) n (omega arith) h)

pub kept_run : {l : List ℕ} (m : List ℕ) (n e : ℕ) → Kept l m → Kept l (run_arrival m n e)
unfolding run_arrival
kept_run m n e h =
    kept_put _ 7 0 (omega arith)
    (kept_put _ 6 0 (omega arith) (kept_put _ 5 0 (omega arith) (kept_put _ 4 n (omega arith) (kept_put _ 3 e (omega arith) (kept_put _ 2 1 (omega arith) h)))))
