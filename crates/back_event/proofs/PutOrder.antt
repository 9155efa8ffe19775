-- Words that are put at different places may be put in either order: byte by byte, and then word by word.
use Rattle.lib_base.proofs.Prelude.{ℕ, ◌≤◌, ◌<◌, ◌+◌, ◌*◌, ◌%◌, ◌/◌, ◌≡◌, refl, ◌∙◌, sym, ap, ◌≢◌, List, [], ◌∷◌, ◌++◌}
use Rattle.lib_base.proofs.Prelude.{length, set, length-append, arith}
use lib.Seq.{set_comm}
use Rattle.lib_word.specs.Word.{put}
use Rattle.format_image.specs.Table.{put_words}
use Rattle.format_image.proofs.PutWords.{put_words_append}
use Rattle.back_emit.specs.Writing.{Table, Wrote}

-- a byte outside word a
set_put : (l : List ℕ) (a y i v : ℕ) → a * 4 ≢ i → a * 4 + 1 ≢ i → a * 4 + 2 ≢ i → a * 4 + 3 ≢ i → set (put l a y) i v ≡ put (set l i v) a y
unfolding put
set_put l a y i v e f g h =
    let l₁ = set l (a * 4) (y / 16777216) in
    let l₂ = set l₁ (a * 4 + 1) (y / 65536 % 256) in
    let l₃ = set l₂ (a * 4 + 2) (y / 256 % 256) in
    set_comm l₃ (a * 4 + 3) i (y % 256) v h
    ∙ ap (λ (m : List ℕ). set m (a * 4 + 3) (y % 256))
    (set_comm l₂ (a * 4 + 2) i (y / 256 % 256) v g
    ∙ ap (λ (m : List ℕ). set m (a * 4 + 2) (y / 256 % 256))
    (set_comm l₁ (a * 4 + 1) i (y / 65536 % 256) v f
    ∙ ap (λ (m : List ℕ). set m (a * 4 + 1) (y / 65536 % 256)) (set_comm l (a * 4) i (y / 16777216) v e)))

put_is : (l : List ℕ) (k x : ℕ)
    → put l k x ≡ set (set (set (set l (k * 4) (x / 16777216)) (k * 4 + 1) (x / 65536 % 256)) (k * 4 + 2) (x / 256 % 256)) (k * 4 + 3) (x % 256)
unfolding put
put_is l k x = refl

-- the bytes of word k are each outside word a
put_put : (l : List ℕ) (a y k x : ℕ) → k < a → put (put l a y) k x ≡ put (put l k x) a y
put_put l a y k x h =
    let l₁ = set l (k * 4) (x / 16777216) in
    let l₂ = set l₁ (k * 4 + 1) (x / 65536 % 256) in
    let l₃ = set l₂ (k * 4 + 2) (x / 256 % 256) in
    put_is (put l a y) k x
    ∙ ap (λ (m : List ℕ). set (set (set m (k * 4 + 1) (x / 65536 % 256)) (k * 4 + 2) (x / 256 % 256)) (k * 4 + 3) (x % 256))
    (set_put l a y (k * 4) (x / 16777216) (omega arith) (omega arith) (omega arith) (omega arith))
    ∙ ap (λ (m : List ℕ). set (set m (k * 4 + 2) (x / 256 % 256)) (k * 4 + 3) (x % 256))
    (set_put l₁ a y (k * 4 + 1) (x / 65536 % 256) (omega arith) (omega arith) (omega arith) (omega arith))
    ∙ ap (λ (m : List ℕ). set m (k * 4 + 3) (x % 256)) (set_put l₂ a y (k * 4 + 2) (x / 256 % 256) (omega arith) (omega arith) (omega arith) (omega arith))
    ∙ set_put l₃ a y (k * 4 + 3) (x % 256) (omega arith) (omega arith) (omega arith) (omega arith)
    ∙ ap (λ (m : List ℕ). put m a y) (sym (put_is l k x))

put_put_words : (l : List ℕ) (a : ℕ) (ys : List ℕ) (k x : ℕ) → k < a → put (put_words l a ys) k x ≡ put_words (put l k x) a ys
unfolding put_words
put_put_words l a [] k x h = refl
put_put_words l a (y ∷ ys) k x h =
    put_put_words (put l a y) (a + 1) ys k x (omega arith) ∙ ap (λ (m : List ℕ). put_words m (a + 1) ys) (put_put l a y k x h)

put_words_put_words : (l : List ℕ) (a : ℕ) (ys : List ℕ) (k : ℕ) (xs : List ℕ) → k + length xs ≤ a → put_words (put_words l a ys) k xs ≡ put_words (put_words l k xs) a ys
unfolding put_words
put_words_put_words l a ys k [] h = refl
put_words_put_words l a ys k (x ∷ xs) h =
    ap (λ (m : List ℕ). put_words m (k + 1) xs) (put_put_words l a ys k x (omega arith)) ∙ put_words_put_words (put l k x) a ys (k + 1) xs (omega arith)

-- words that are written in front of others, up to them
pub wrote_front : {t t₁ t₂ : Table} {xs ys : List ℕ} {k a r s : ℕ} → a ≡ k + length xs → Wrote t a ys t₁ r → Wrote t₁ k xs t₂ s → Wrote t k (xs ++ ys) t₂ r
wrote_front {t} {t₁} {t₂} {xs} {ys} {k} {a} {r} q w v = record {
  table =
      v.table ∙ ap (λ (m : List ℕ). put_words m k xs) w.table ∙ put_words_put_words t.now a ys k xs (omega arith)
      ∙ ap (λ (b : ℕ). put_words (put_words t.now k xs) b ys) q ∙ sym (put_words_append t.now k xs ys);
  next = rw length-append (omega (arith, w.next));
  same = v.same ∙ w.same;
}
