-- What the loops over values and over the draft's numbers have written, and the table's words on rights.
use Rattle.lib_base.proofs.Prelude.{ℕ, ◌≤◌, ◌<◌, ◌+◌, ◌-◌, suc, zero, ◌%◌, ◌≡◌, refl, sym, List, [], ◌∷◌, length, get_or, take, drop, flat_map}
use Rattle.lib_base.proofs.Prelude.{replicate, length-replicate, length-append, length-drop, get_or-drop, take-suc, take_all, add-one, arith}
use Rattle.format_image.specs.Table.{padded}
use Rattle.format_image.proofs.ImageLaws.{length_padded}
use Rattle.back_emit.specs.Words.{each}
use Rattle.back_emit.specs.Writing.{Table, Room, Wrote}
use Rattle.back_emit.proofs.WritingLaws.{wrote_then, wrote_as, in_turn_each}
use Rattle.back_parts.specs.RightWords.{draft_number, right_words}

-- the first i words of v are written; then one more
pub values_turn : (v : List ℕ) (i : ℕ) {t t' t'' : Table} {k r s : ℕ} → i < length v → Wrote t k (take i v) t' r → Wrote t' r (get_or v i 0 ∷ []) t'' s → Wrote t k (take (i + 1) v) t'' s
values_turn v i b w u = rw (add-one i) (wrote_as (sym (take-suc v i 0 b)) (wrote_then w u))

pub values_end : (v : List ℕ) (i : ℕ) {t t' : Table} {k r : ℕ} → length v ≤ i → Wrote t k (take i v) t' r → Wrote t k v t' r
values_end v i b w = wrote_as (take_all i v b) w

-- words, and zeros up to n of them
pub wrote_padded : {t t' t'' : Table} {ws : List ℕ} {k b c : ℕ} (n : ℕ) → Wrote t k ws t' b → Wrote t' b (replicate (k + n - b) 0) t'' c → Wrote t k (padded n ws) t'' c
unfolding padded
wrote_padded {ws = ws} {k = k} {b = b} n w z =
    let s : k + n - b ≡ n - length ws = omega (arith, w.next) in
    wrote_then w (rw s at z)

-- ---- numbers of the draft

-- the words of the part of the draft with them
pub numbers_are : (d : List ℕ) (from n : ℕ) → from + n ≤ length d
    → flat_map (λ x. (x % 4294967296) ∷ []) (take (from + n - from) (drop from d)) ≡ each n (draft_number d from)
unfolding draft_number
numbers_are d from n h =
    let l : n ≤ length (drop from d) = omega (arith, length-drop from d) in
    let s : flat_map (λ x. (x % 4294967296) ∷ []) (take n (drop from d)) ≡ each n (λ j. (get_or (drop from d) j 0 % 4294967296) ∷ []) =
    in_turn_each (λ x. (x % 4294967296) ∷ []) (drop from d) n l in
    let z : from + n - from ≡ n = omega arith in
    rw z (simp get_or-drop at s)

-- each has one word
pub length_numbers : (d : List ℕ) (from n : ℕ) → length (each n (draft_number d from)) ≡ n
unfolding each draft_number
length_numbers d from zero = refl
length_numbers d from (suc n) = rw length-append (omega (arith, length_numbers d from n))

pub numbers_room : (d : List ℕ) (from n : ℕ) {t : Table} {k : ℕ} → k + n ≤ 8704 → 34816 ≤ length t.now → Room t k (each n (draft_number d from))
numbers_room d from n a b = record { within = omega (arith, length_numbers d from n); long = b }

pub numbers_next : (d : List ℕ) (from n : ℕ) {t t' : Table} {k r : ℕ} → Wrote t k (each n (draft_number d from)) t' r → r ≡ k + n
numbers_next d from n w = omega (arith, w.next, length_numbers d from n)

pub zeros_next : (last : ℕ) {t t' : Table} {k r : ℕ} → k ≤ last → Wrote t k (replicate (last - k) 0) t' r → r ≡ last
zeros_next last {k = k} h w = omega (arith, w.next, length-replicate {A = ℕ} (last - k) 0)

pub rights_wrote : (d : List ℕ) (ev bs : ℕ) {t t₁ t₂ t₃ t₄ : Table} {a b c r : ℕ} → ev ≤ 32 → bs ≤ 64 → Wrote t 200 (each bs (draft_number d 4256)) t₁ a
    → Wrote t₁ a (replicate (264 - a) 0) t₂ b → Wrote t₂ b (each ev (draft_number d 4320)) t₃ c → Wrote t₃ c (replicate (296 - c) 0) t₄ r
    → Wrote t 200 (right_words d ev bs) t₄ r × (r ≡ 296)
unfolding right_words
rights_wrote d ev bs {b = b} {r = r} few small w x y z =
    let seen = wrote_padded 64 w x in
    let p : b ≡ 264 = omega (arith, seen.next, length_padded 64 (each bs (draft_number d 4256)) (omega (arith, length_numbers d 4256 bs))) in
    let sent = wrote_padded 32 (rw p at y) z in
    (wrote_then (rw p at seen) sent, omega (arith, sent.next, length_padded 32 (each ev (draft_number d 4320)) (omega (arith, length_numbers d 4320 ev))))
