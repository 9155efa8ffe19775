-- Writing goes on where it ended: what is written by one function and then by another, and what a loop has written so
-- far.
use Rattle.lib_base.proofs.Prelude.{ℕ, ◌≤◌, ◌<◌, ◌+◌, suc, zero, ◌≡◌, refl, ◌∙◌, sym, ap, by_cases, List, [], ◌∷◌, ◌++◌}
use Rattle.lib_base.proofs.Prelude.{append_assoc, append-nil, flat_map, length, get_or, take, length-append, take-suc, take-length}
use Rattle.lib_base.proofs.Prelude.{◌-◌, replicate, add-one, dec_lt, arith}
use lib.ListN.{replicate-append-replicate}
use Rattle.lib_word.specs.Word.{put}
use Rattle.format_image.specs.Table.{put_words}
use Rattle.format_image.proofs.PutWords.{length_put_words, put_words_append}
use Rattle.back_emit.specs.Words.{each}
use Rattle.back_emit.specs.Writing.{Table, Room, Wrote}

-- ---- one after the other

pub wrote_none : (t : Table) (k : ℕ) → Wrote t k [] t k
unfolding put_words
wrote_none t k = record { table = refl; next = omega arith; same = refl }

pub wrote_long : {t t' : Table} {ws : List ℕ} {k r : ℕ} → Wrote t k ws t' r → length t'.now ≡ length t.now
wrote_long {t} {ws = ws} {k = k} w = rw w.table (length_put_words t.now k ws)

pub wrote_then : {t t' t'' : Table} {xs ys : List ℕ} {k r s : ℕ} → Wrote t k xs t' r → Wrote t' r ys t'' s → Wrote t k (xs ++ ys) t'' s
wrote_then {t} {t'} {t''} {xs} {ys} {k} {r} {s} w v = record {
  table = v.table ∙ ap (λ (l : List ℕ). put_words l r ys) w.table ∙ ap (λ (a : ℕ). put_words (put_words t.now k xs) a ys) w.next ∙ sym (put_words_append t.now k xs ys);
  next = rw length-append (omega (arith, w.next, v.next));
  same = v.same ∙ w.same;
}

pub wrote_as : {t t' : Table} {xs ys : List ℕ} {k r : ℕ} → xs ≡ ys → Wrote t k xs t' r → Wrote t k ys t' r
wrote_as {t} {t'} {xs} {ys} {k} {r} e w = rw e at w

pub wrote_one : {t t' : Table} {k w : ℕ} → t'.now ≡ put t.now k w → t'.ghost_name ≡ t.ghost_name → Wrote t k (w ∷ []) t' (k + 1)
unfolding put_words
wrote_one p q = record { table = p; next = omega arith; same = q }

pub room_as : {t : Table} {xs ys : List ℕ} {k : ℕ} → xs ≡ ys → Room t k ys → Room t k xs
room_as {t} {xs} {ys} {k} e h = rw e h

pub room_first : {t : Table} {k : ℕ} (xs ys : List ℕ) → Room t k (xs ++ ys) → Room t k xs
room_first {t} {k} xs ys h = record { within = omega (arith, h.within, length-append xs ys); long = h.long }

pub room_then : {t t' : Table} {xs ys : List ℕ} {k r : ℕ} → Wrote t k xs t' r → Room t k (xs ++ ys) → Room t' r ys
room_then {t} {t'} {xs} {ys} {k} {r} w h =
    record { within = omega (arith, h.within, w.next, length-append xs ys); long = omega (arith, h.long, wrote_long w) }

-- ---- loops

each_le : (f : ℕ → List ℕ) (i n : ℕ) → i ≤ n → length (each i f) ≤ length (each n f)
unfolding each
each_le f i zero h = let z : i ≡ 0 = omega arith in rw z (omega arith)
each_le f i (suc n) h =
    by_cases (dec_lt n i) (λ p. let z : i ≡ suc n = omega arith in rw z (omega arith))
    (λ p. omega (arith, each_le f i n (omega arith), length-append (each n f) (f n)))

each_one : (f : ℕ → List ℕ) (i : ℕ) → each (i + 1) f ≡ each i f ++ f i
unfolding each
each_one f i = rw add-one

-- a list's members by their places
flat_map_snoc : (f : ℕ → List ℕ) (xs : List ℕ) (x : ℕ) → flat_map f (xs ++ (x ∷ [])) ≡ flat_map f xs ++ f x
unfolding flat_map
flat_map_snoc f [] x = append-nil (f x)
flat_map_snoc f (y ∷ xs) x = rw (flat_map_snoc f xs x, append_assoc)

pub in_turn_each : (f : ℕ → List ℕ) (o : List ℕ) (count : ℕ) → count ≤ length o → flat_map f (take count o) ≡ each count (λ j. f (get_or o j 0))
unfolding each flat_map
in_turn_each f o zero h = refl
in_turn_each f o (suc j) h = rw (take-suc o j 0 (omega arith), flat_map_snoc f (take j o) (get_or o j 0), in_turn_each f o j (omega arith))

-- ---- what a loop has written, of f of each number below n, and of f of each member of a list

pub each_of : (f : ℕ → List ℕ) (xs : List ℕ) → flat_map f xs ≡ each (length xs) (λ j. f (get_or xs j 0))
each_of f xs = ap (flat_map f) (sym (take-length xs)) ∙ in_turn_each f xs (length xs) (omega arith)

pub each_start : (f : ℕ → List ℕ) (t : Table) (k : ℕ) → Wrote t k (each 0 f) t k
unfolding each
each_start f t k = wrote_none t k

module _ (f : ℕ → List ℕ) {t t' : Table} {k i r : ℕ} where
  pub each_room : {n : ℕ} → Room t k (each n f) → Wrote t k (each i f) t' r → i < n → Room t' r (f i)
  each_room {n} room w b =
      room_then w (room_as (sym (each_one f i)) (record { within = omega (arith, room.within, each_le f (i + 1) n (omega arith)); long = room.long }))

  pub each_turn : {t'' : Table} {s : ℕ} → Wrote t k (each i f) t' r → Wrote t' r (f i) t'' s → Wrote t k (each (i + 1) f) t'' s
  each_turn w v = wrote_as (sym (each_one f i)) (wrote_then w v)

pub each_end : (f : ℕ → List ℕ) {t t' : Table} {k i r n : ℕ} → Wrote t k (each i f) t' r → i ≡ n → Wrote t k (each n f) t' r
each_end f w e = rw e at w

-- ---- zeros, written from word k up to word next

pub record Zeros (t₀ : Table) (k last : ℕ) (t : Table) (next : ℕ) : Type 0 where
  pub wrote : Wrote t₀ k (replicate (next - k) 0) t next
  pub least : k ≤ next
  pub most : next ≤ last

pub zeros_start : (t : Table) (k last : ℕ) → k ≤ last → Zeros t k last t k
zeros_start t k last h = let z : k - k ≡ 0 = omega arith in record { wrote = rw z (wrote_none t k); least = omega arith; most = h }

pub zeros_turn : {t₀ t t' : Table} {k last next r : ℕ} → Zeros t₀ k last t next → next < last → Wrote t next (0 ∷ []) t' r → Zeros t₀ k last t' r
zeros_turn {t₀} {t} {t'} {k} {last} {next} {r} u h q =
    let s : next - k + 1 ≡ r - k = omega (arith, u.least, q.next) in
    record {
      wrote = rw s at (wrote_as (replicate-append-replicate (next - k) 1 0) (wrote_then u.wrote q));
      least = omega (arith, u.least, q.next);
      most = omega (arith, q.next);
    }

pub zeros_end : {t₀ t : Table} {k last next : ℕ} → Zeros t₀ k last t next → last ≤ next → Wrote t₀ k (replicate (last - k) 0) t next
zeros_end {last = last} {next = next} u h = let s : last ≡ next = omega (arith, u.most) in rw s u.wrote
