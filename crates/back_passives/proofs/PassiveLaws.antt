-- What is written goes on where it ended; a count is small, so that the sum fits.
use Rattle.lib_base.proofs.Prelude.{ℕ, ◌≤◌, ◌<◌, ◌+◌, ◌-◌, suc, zero, ◌≡◌, refl, List, [], ◌∷◌, length, replicate}
use Rattle.lib_base.proofs.Prelude.{length-append, eqb, arith}
use Rattle.lib_base.specs.Basics.{pick}
use Rattle.lib_base.proofs.Tools.{by_test}
use Rattle.format_image.proofs.ImageLaws.{length_padded}
use Rattle.draft_form.specs.Draft.{entry_of}
use Rattle.draft_form.specs.Entry.{entry_kind, entry_count}
use Rattle.back_counts.specs.Counts.{EntriesInside, share_of, count_event, count_members}
use Rattle.back_counts.proofs.CountLaws.{total_le, share_small}
use Rattle.back_emit.specs.Words.{each}
use Rattle.back_emit.specs.Writing.{Table, Room, Wrote}
use Rattle.back_emit.proofs.WritingLaws.{wrote_then}
use Rattle.back_parts.proofs.PartLaws.{wrote_padded}
use Rattle.back_passives.specs.PassiveWords.{kind_word, again_share, count_again, again_start, stretch_words, draft_passive_words}

-- ---- small sums

pub again_small : (v : ℕ) → entry_count v ≤ 2048 → again_share v ≤ 4100
unfolding again_share
again_small v h = by_test (λ x. x ≤ 4100) (eqb (entry_kind v) 1) (λ _. omega arith) (λ _. omega arith)

entry_small : {d : List ℕ} {n : ℕ} → EntriesInside d 0 n → (i : ℕ) → i < n → entry_count (entry_of d 0 i) ≤ 2048
entry_small {d} {n} s i b = omega (arith, s.inside i b)

pub count_again_small : (d : List ℕ) (n : ℕ) → EntriesInside d 0 n → count_again d n ≤ 262400
unfolding count_again
count_again_small d n s =
    omega (arith, total_le (λ i. again_share (entry_of d 0 i)) 4100 n (λ i b. again_small (entry_of d 0 i) (entry_small s i b)), s.few)

pub count_event_small : (d : List ℕ) (n : ℕ) → EntriesInside d 0 n → count_event d 0 n ≤ 262404
unfolding count_event
count_event_small d n s =
    omega (arith, total_le (λ i. share_of (entry_of d 0 i)) 4100 n (λ i b. share_small (entry_of d 0 i) (entry_small s i b)), s.few)

pub start_small : (ev all m count : ℕ) → again_start ev all m count ≤ all
unfolding again_start
start_small ev all m count = by_test (λ x. x ≤ all) (eqb ev 0) (λ _. omega arith) (λ _. omega arith)

-- ---- kinds

pub kind_is : (d : List ℕ) (i : ℕ) {v w : ℕ} → v ≡ entry_of d 0 i → w ≡ pick (eqb (entry_kind v) 1) 1 0 → w ∷ [] ≡ kind_word d i
unfolding kind_word
kind_is d i e f = rw (← e, ← f) refl

pub length_kinds : (d : List ℕ) (n : ℕ) → length (each n (kind_word d)) ≡ n
unfolding each kind_word
length_kinds d zero = refl
length_kinds d (suc n) = rw length-append (omega (arith, length_kinds d n))

pub kinds_next : (d : List ℕ) (n : ℕ) {t t' : Table} {k r : ℕ} → Wrote t k (each n (kind_word d)) t' r → r ≡ k + n
kinds_next d n w = omega (arith, w.next, length_kinds d n)

pub kinds_room : (d : List ℕ) (n : ℕ) {t : Table} {k : ℕ} → k + n ≤ 8704 → 34816 ≤ length t.now → Room t k (each n (kind_word d))
kinds_room d n a b = record { within = omega (arith, length_kinds d n); long = b }

-- ---- all of them

pub passive_words_wrote : (d : List ℕ) (ev bs : ℕ) {t t₁ t₂ t₃ t₄ t₅ : Table} {a b e f x y r : ℕ} → bs ≤ 64 → Wrote t 296 (each bs (kind_word d)) t₁ a
    → Wrote t₁ a (replicate (360 - a) 0) t₂ b → x ≡ again_start ev (count_event d 0 bs) (count_members d 0 bs) (count_again d bs) → y ≡ count_again d bs
    → Wrote t₂ b (x ∷ []) t₃ e → Wrote t₃ e (y ∷ []) t₄ f → Wrote t₄ f (replicate (512 - f) 0) t₅ r → Wrote t 296 (draft_passive_words d ev bs) t₅ r × (r ≡ 512)
unfolding draft_passive_words stretch_words
passive_words_wrote d ev bs {b = b} {f = f} {x = x} {y = y} {r = r} small w z g h p q v =
    let kinds = wrote_padded 64 w z in
    let k : b ≡ 360 = omega (arith, kinds.next, length_padded 64 (each bs (kind_word d)) (omega (arith, length_kinds d bs))) in
    let l : 512 ≡ b + 152 = omega arith in
    let rest = wrote_padded 152 (wrote_then p q) (rw l at v) in
    (wrote_then kinds (rw (g, h) at rest), omega (arith, rest.next, length_padded 152 (x ∷ y ∷ []) (omega arith)))
