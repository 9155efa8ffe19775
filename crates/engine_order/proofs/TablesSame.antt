-- Words put one after the other from the start make two buffers alike as far as they reach: byte by byte.
use Rattle.lib_base.proofs.Prelude.{ℕ, ◌≤◌, ◌<◌, ◌+◌, suc, ◌*◌, ◌%◌, ◌/◌, ◌≡◌, refl, ◌∙◌, sym, ap, subst, by_cases}
use Rattle.lib_base.proofs.Prelude.{List, [], ◌∷◌, length, get_or, length-set, set, get_or-set_other, get_or-set_same, dec_lt}
use Rattle.lib_base.proofs.Prelude.{arith}
use Rattle.lib_word.specs.Word.{put}
use Rattle.spec_language.specs.Valid.{Accepted}
use Rattle.spec_language.specs.Syntax.{Program}
use Rattle.spec_semantics.proofs.Lengths.{length_fresh}
use Rattle.format_image.specs.Table.{image_words, put_words, table_of}
use Rattle.format_image.proofs.ImageLaws.{length_image}
use Rattle.back_compile.specs.Compiled.{program_of}
use Rattle.back_compile.proofs.AcceptedExactly.{accepted_exactly}
use Rattle.refine_calls.proofs.Refines.{short_code}
use Rattle.refine_lists.proofs.Sheets.{table_room, program_accepted}
use Rattle.refine_lists.proofs.FromSheets.{table_is}
use Rattle.engine_order.specs.SameTables.{SameTables}

-- alike below n, and both long enough for `room` bytes
record Alike (room n : ℕ) (l m : List ℕ) : Type 0 where
  left : room ≤ length l
  right : room ≤ length m
  same : (j : ℕ) → j < n → get_or l j 0 ≡ get_or m j 0

one_byte : (room n i v : ℕ) (l m : List ℕ) → i ≡ n → n < room → Alike room n l m → Alike room (n + 1) (set l i v) (set m i v)
one_byte room n i v l m at h a =
    let p = a.left in
    let q = a.right in
    record {
      left = simp length-set (omega arith);
      right = simp length-set (omega arith);
      same = λ j b.
          by_cases (dec_lt j i)
          (λ c. get_or-set_other l i j v 0 (omega arith) ∙ a.same j (omega arith) ∙ sym (get_or-set_other m i j v 0 (omega arith)))
          (λ c. let e : j ≡ i = omega arith in rw e (get_or-set_same l i v 0 (omega arith) ∙ sym (get_or-set_same m i v 0 (omega arith))));
    }

one_word : (room k w : ℕ) (l m : List ℕ) → k * 4 + 4 ≤ room → Alike room (k * 4) l m → Alike room ((k + 1) * 4) (put l k w) (put m k w)
unfolding put
one_word room k w l m h a =
    let n = k * 4 in
    let v₁ = w / 16777216 in
    let v₂ = w / 65536 % 256 in
    let v₃ = w / 256 % 256 in
    let l₁ : List ℕ = set l n v₁ in
    let m₁ : List ℕ = set m n v₁ in
    let l₂ : List ℕ = set l₁ (n + 1) v₂ in
    let m₂ : List ℕ = set m₁ (n + 1) v₂ in
    let l₃ : List ℕ = set l₂ (n + 2) v₃ in
    let m₃ : List ℕ = set m₂ (n + 2) v₃ in
    let e : n + 1 + 1 + 1 + 1 ≡ (k + 1) * 4 = omega arith in
    subst (λ (x : ℕ). Alike room x (set l₃ (n + 3) (w % 256)) (set m₃ (n + 3) (w % 256))) e
    (one_byte room (n + 1 + 1 + 1) (n + 3) (w % 256) l₃ m₃ (omega arith) (omega arith)
    (one_byte room (n + 1 + 1) (n + 2) v₃ l₂ m₂ (omega arith) (omega arith)
    (one_byte room (n + 1) (n + 1) v₂ l₁ m₁ refl (omega arith) (one_byte room n n v₁ l m refl (omega arith) a))))

words_alike : (room : ℕ) (ws : List ℕ) (k : ℕ) (l m : List ℕ) → (k + length ws) * 4 ≤ room → Alike room (k * 4) l m
    → Alike room ((k + length ws) * 4) (put_words l k ws) (put_words m k ws)
unfolding put_words
words_alike room [] k l m h a = let e : k + 0 ≡ k = omega arith in rw e a
words_alike room (w ∷ ws) k l m h a =
    let e : k + suc (length ws) ≡ k + 1 + length ws = omega arith in
    rw e (words_alike room ws (k + 1) (put l k w) (put m k w) (omega arith) (one_word room k w l m (omega arith) a))

image_length : (p : Program) → Accepted p → length (image_words p) ≡ 8704
image_length p ok =
    length_image p ok.fits.few_events ok.fits.few_behaviours (length_fresh p) (short_code p ok)
    (omega (arith, ok.fits.all_viewers, ok.fits.few_behaviours)) (omega (arith, ok.fits.all_senders, ok.fits.few_events))

table_alike : (p : Program) → Accepted p → (t u : List ℕ) → 34816 ≤ length t → 34816 ≤ length u → (j : ℕ) → j < 34816 → get_or (table_of p t) j 0 ≡ get_or (table_of p u) j 0
unfolding table_of
table_alike p ok t u a b j h =
    let n = image_length p ok in
    (words_alike 34816 (image_words p) 0 t u (omega arith) record { left = a; right = b; same = λ i c. absurd (omega arith) }).same j (omega arith)

pub same_tables : SameTables
same_tables s ps t u small words h g j b =
    let rt = table_room s ps t h in
    let ru = table_room s ps u g in
    let a = (accepted_exactly s ps t small rt).0 h in
    let p : Program = program_of ps a.0 in
    ap (λ (l : List ℕ). get_or l j 0) (table_is s ps t small a.0 a.1 a.2 rt)
    ∙ table_alike p (program_accepted ps words a.0 a.2) t u rt ru j b
    ∙ sym (ap (λ (l : List ℕ). get_or l j 0) (table_is s ps u small a.0 a.1 a.2 ru))
