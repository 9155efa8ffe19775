-- The steps of an event: the room for each, whatever is written before it, and that what they write stands in a row.
use Rattle.lib_base.proofs.Prelude.{ℕ, ◌+◌, suc, zero, ◌*◌, ◌≡◌, refl, true, false, List, [], ◌∷◌, ◌++◌, append_assoc}
use Rattle.lib_base.proofs.Prelude.{length, take, length-append, eqb, arith}
use Rattle.std.specs.Prelude.{Option, Some}
use Rattle.lib_base.proofs.Tools.{split}
use Rattle.draft_form.specs.Draft.{entry_of}
use Rattle.back_counts.specs.Counts.{total, is_member, count_members}
use Rattle.back_schedule.specs.Ordering.{order_under, is_ordered, OrderHolds, Checked}
use Rattle.back_schedule.proofs.OrderingLaws.{found_all}
use Rattle.back_emit.specs.Words.{each, member_words}
use Rattle.back_emit.specs.Writing.{Table, Room, Wrote}
use Rattle.back_emit.proofs.WritingLaws.{wrote_long, wrote_then, wrote_as, room_as, room_first, room_then}
use Rattle.back_phases.specs.Phases.{first_words, second_words}
use Rattle.back_event.specs.Handlers.{masked_words, event_words, code_of}
use Rattle.back_event.proofs.PutOrder.{wrote_front}

module _ (d : List ℕ) (e n op : ℕ) {t : Table} {k : ℕ} (h : Room t k (masked_words d e op n)) where
  pub masked_begin : Room t k (256 ∷ 0 ∷ [])
  unfolding masked_words
  masked_begin = room_first (256 ∷ 0 ∷ []) (each n (member_words d e op) ++ (512 ∷ 0 ∷ [])) h

  pub masked_rest : {t₁ : Table} {r₁ : ℕ} → Wrote t k (256 ∷ 0 ∷ []) t₁ r₁ → Room t₁ r₁ (each n (member_words d e op) ++ (512 ∷ 0 ∷ []))
  unfolding masked_words
  masked_rest w = room_then w h

  pub masked_members : {t₁ : Table} {r₁ : ℕ} → Wrote t k (256 ∷ 0 ∷ []) t₁ r₁ → Room t₁ r₁ (each n (member_words d e op))
  masked_members w = room_first (each n (member_words d e op)) (512 ∷ 0 ∷ []) (masked_rest w)

  pub masked_end : {t₁ t₂ : Table} {r₁ r₂ : ℕ} → Wrote t k (256 ∷ 0 ∷ []) t₁ r₁ → Wrote t₁ r₁ (each n (member_words d e op)) t₂ r₂
      → Room t₂ r₂ (512 ∷ 0 ∷ [])
  masked_end w v = room_then v (masked_rest w)

pub masked_all : (d : List ℕ) (e n op : ℕ) {t t₁ t₂ t₃ : Table} {k r₁ r₂ r₃ : ℕ} → Wrote t k (256 ∷ 0 ∷ []) t₁ r₁
    → Wrote t₁ r₁ (each n (member_words d e op)) t₂ r₂ → Wrote t₂ r₂ (512 ∷ 0 ∷ []) t₃ r₃ → Wrote t k (masked_words d e op n) t₃ r₃
unfolding masked_words
masked_all d e n op u v w = wrote_then u (wrote_then v w)

-- ---- where phase one begins

member_length : (d : List ℕ) (e op i : ℕ) → length (member_words d e op i) ≡ 2 * is_member (entry_of d e i)
unfolding member_words is_member
member_length d e op i = split (eqb (entry_of d e i) 0) (λ t. rw t) (λ t. rw t)

members_length : (d : List ℕ) (e op n : ℕ) → length (each n (member_words d e op)) ≡ 2 * total n (λ i. is_member (entry_of d e i))
unfolding each total
members_length d e op zero = refl
members_length d e op (suc n) = rw length-append (omega (arith, members_length d e op n, member_length d e op n))

masked_length : (d : List ℕ) (e op n : ℕ) → length (masked_words d e op n) ≡ 2 * (2 + count_members d e n)
unfolding masked_words count_members
masked_length d e op n = rw (length-append (each n (member_words d e op)) (512 ∷ 0 ∷ [])) (omega (arith, members_length d e op n))

pub behind_copy : (d : List ℕ) (e n k m : ℕ) → m ≡ count_members d e n → k + 2 * (2 + m) ≡ k + length (masked_words d e 768 n)
behind_copy d e n k m q = rw (masked_length d e 768 n, q)

-- ---- Figure 3's steps

module _ (d is : List ℕ) (e n : ℕ) {t : Table} {k a : ℕ} (h : Room t k (event_words d e n is)) (q : a ≡ k + length (masked_words d e 768 n)) where
  lengths : length (event_words d e n is)
      ≡ length (masked_words d e 768 n) + (length (first_words d e n is) + (length (second_words d e n is) + length (masked_words d e 1024 n)))
  unfolding event_words
  lengths = simp length-append

  pub room_first_phase : Room t a (first_words d e n is)
  room_first_phase = record { within = omega (arith, h.within, lengths); long = h.long }

  module _ {t₁ : Table} {b : ℕ} (w₁ : Wrote t a (first_words d e n is) t₁ b) where
    pub room_second_phase : Room t₁ b (second_words d e n is)
    room_second_phase = record { within = omega (arith, h.within, lengths, w₁.next); long = omega (arith, h.long, wrote_long w₁) }

    module _ {t₂ : Table} {c : ℕ} (w₂ : Wrote t₁ b (second_words d e n is) t₂ c) where
      pub room_copy : Room t₂ k (masked_words d e 768 n)
      room_copy = record { within = omega (arith, h.within, lengths); long = omega (arith, h.long, wrote_long w₁, wrote_long w₂) }

      module _ {t₃ : Table} {r : ℕ} (w₃ : Wrote t₂ k (masked_words d e 768 n) t₃ r) where
        pub room_restore : Room t₃ c (masked_words d e 1024 n)
        room_restore = record {
          within = omega (arith, h.within, lengths, w₁.next, w₂.next);
          long = omega (arith, h.long, wrote_long w₁, wrote_long w₂, wrote_long w₃);
        }

        -- the copy's, phase one's, phase two's and the copy-back's in a row
        pub steps_wrote : {t₄ : Table} {s : ℕ} → Wrote t₃ c (masked_words d e 1024 n) t₄ s → Wrote t k (event_words d e n is) t₄ s
        unfolding event_words
        steps_wrote w₄ =
            wrote_as (simp append_assoc) (wrote_then (wrote_front q (wrote_then w₁ w₂) w₃) w₄)

-- ---- with the check

pub code_none : (d : List ℕ) (e n : ℕ) → is_ordered d e n ≡ false → [] ≡ code_of d n e
unfolding code_of
code_none d e n h = rw h

pub code_ordered : (d : List ℕ) (e n : ℕ) {o : List ℕ} {count : ℕ} → is_ordered d e n ≡ true → OrderHolds o count n (order_under d e n)
    → event_words d e n (take count o) ≡ code_of d n e
unfolding code_of
code_ordered d e n h w = rw (h, w.taken)

-- what was found, and the room for the code in that order
pub in_order : (d : List ℕ) (e n : ℕ) {a : Option ℕ} {o : List ℕ} {t : Table} {count k : ℕ} → Checked d e n a o → a ≡ Some count → Room t k (code_of d n e)
    → OrderHolds o count n (order_under d e n) × ((event_words d e n (take count o) ≡ code_of d n e) × Room t k (event_words d e n (take count o)))
in_order d e n {a} {o} {count = count} h s r =
    let f = found_all d e n a o h count s in
    let w = code_ordered d e n f.0 f.1 in
    (f.1, (w, room_as w r))
