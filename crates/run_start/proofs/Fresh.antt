-- "Start: .. the round's old bytes are not read.": the round that start leaves is the same for any two rounds of one
-- length that are alike beyond 2,048 bytes. Clearing n words makes the first 4n bytes 0 and leaves the others, by
-- induction on n; so the cleared rounds are equal byte by byte.
use Rattle.lib_base.proofs.Prelude.{ℕ, ◌≤◌, ◌<◌, ◌+◌, ◌-◌, suc, zero, ◌*◌, ◌≡◌, refl, ◌∙◌, sym, ap, false, List, []}
use Rattle.lib_base.proofs.Prelude.{◌∷◌, length, get_or, drop, length-set, set, get_or-set_other, get_or-set_same, ext_get_or}
use Rattle.lib_base.proofs.Prelude.{get_or-drop, eqb, ltb, eqb-true, ltb-false, eqb-false, ltb-true, arith}
use Rattle.std.proofs.lemmas.List.{get_or_append_left, get_or-append_right, get_or-replicate, length-drop, length-replicate, length-append}
use Rattle.lib_base.proofs.Prelude.{◌++◌, replicate}
use Rattle.lib_base.proofs.Tools.{split}
use Rattle.lib_word.specs.Word.{put}
use Rattle.format_layout.specs.Foreign.{table_fits}
use Rattle.run_start.specs.Start.{cleared, image, fresh_bytes, start_on}
use Rattle.lib_word.proofs.Laws.{length_put}

-- ---- a byte that is set to 0

past_end : (l : List ℕ) (i : ℕ) → length l ≤ i → get_or l i 0 ≡ 0
past_end [] i h = refl
past_end (x ∷ l) zero h = absurd (omega arith)
past_end (x ∷ l) (suc i) h = past_end l i (omega arith)

set_there : (l : List ℕ) (i : ℕ) → get_or (set l i 0) i 0 ≡ 0
set_there l i =
    split (ltb i (length l))
    (λ e. get_or-set_same l i 0 0 (ltb-true i (length l) e))
    (λ e. let h : length (set l i 0) ≤ i = rw length-set (ltb-false i (length l) e) in past_end (set l i 0) i h)

stays_zero : (l : List ℕ) (j i : ℕ) → get_or l i 0 ≡ 0 → get_or (set l j 0) i 0 ≡ 0
stays_zero l j i h =
    split (eqb i j)
    (λ e. rw (eqb-true i j e) (set_there l j))
    (λ e. get_or-set_other l j i 0 0 (eqb-false i j e) ∙ h)

-- ---- a word, and n words

-- the first one, two and three bytes of word k set to 0
abbrev first : List ℕ → ℕ → List ℕ
first l k = set l (k * 4) 0

abbrev second : List ℕ → ℕ → List ℕ
second l k = set (first l k) (k * 4 + 1) 0

abbrev third : List ℕ → ℕ → List ℕ
third l k = set (second l k) (k * 4 + 2) 0

word_stays : (l : List ℕ) (k i : ℕ) → get_or l i 0 ≡ 0 → get_or (put l k 0) i 0 ≡ 0
unfolding put
word_stays l k i h =
    stays_zero (third l k) (k * 4 + 3) i
    (stays_zero (second l k) (k * 4 + 2) i (stays_zero (first l k) (k * 4 + 1) i (stays_zero l (k * 4) i h)))

word_zero : (l : List ℕ) (k i : ℕ) → k * 4 ≤ i → i < k * 4 + 4 → get_or (put l k 0) i 0 ≡ 0
unfolding put
word_zero l k i a b =
    split (eqb i (k * 4 + 3)) (λ e. rw (eqb-true i (k * 4 + 3) e) (set_there (third l k) (k * 4 + 3)))
    (λ e₃. stays_zero (third l k) (k * 4 + 3) i
    (split (eqb i (k * 4 + 2)) (λ e. rw (eqb-true i (k * 4 + 2) e) (set_there (second l k) (k * 4 + 2)))
    (λ e₂. stays_zero (second l k) (k * 4 + 2) i
    (split (eqb i (k * 4 + 1)) (λ e. rw (eqb-true i (k * 4 + 1) e) (set_there (first l k) (k * 4 + 1)))
    (λ e₁. stays_zero (first l k) (k * 4 + 1) i
    (let q : i ≡ k * 4 = omega (arith, eqb-false i (k * 4 + 3) e₃, eqb-false i (k * 4 + 2) e₂, eqb-false i (k * 4 + 1) e₁) in
    rw q (set_there l (k * 4))))))))

word_other : (l : List ℕ) (k i : ℕ) → k * 4 + 4 ≤ i → get_or (put l k 0) i 0 ≡ get_or l i 0
unfolding put
word_other l k i h =
    get_or-set_other (third l k) (k * 4 + 3) i 0 0 (omega arith)
    ∙ get_or-set_other (second l k) (k * 4 + 2) i 0 0 (omega arith)
    ∙ get_or-set_other (first l k) (k * 4 + 1) i 0 0 (omega arith)
    ∙ get_or-set_other l (k * 4) i 0 0 (omega arith)

cleared_zero : (l : List ℕ) (n i : ℕ) → i < n * 4 → get_or (cleared l n) i 0 ≡ 0
unfolding cleared
cleared_zero l zero i h = absurd (omega arith)
cleared_zero l (suc n) i h =
    split (ltb i (n * 4))
    (λ e. word_stays (cleared l n) n i (cleared_zero l n i (ltb-true i (n * 4) e)))
    (λ e. word_zero (cleared l n) n i (ltb-false i (n * 4) e) (omega arith))

cleared_other : (l : List ℕ) (n i : ℕ) → n * 4 ≤ i → get_or (cleared l n) i 0 ≡ get_or l i 0
unfolding cleared
cleared_other l zero i h = refl
cleared_other l (suc n) i h = word_other (cleared l n) n i (omega arith) ∙ cleared_other l n i (omega arith)

cleared_length : (l : List ℕ) (n : ℕ) → length (cleared l n) ≡ length l
unfolding cleared
cleared_length l zero = refl
cleared_length l (suc n) = length_put (cleared l n) n 0 ∙ cleared_length l n

-- zeros in front of the bytes beyond are the words cleared
pub zeros_are : (l m : List ℕ) (k : ℕ) → 2048 ≤ length l → k ≡ 2048 → m ≡ replicate k 0 → m ++ drop 2048 l ≡ cleared l 512
zeros_are l m k h z e₀ =
    let e : m ≡ replicate 2048 0 = rw z at e₀ in
    let n : length m ≡ 2048 = rw e (length-replicate {A = ℕ} 2048 0) in
    ext_get_or 0 (m ++ drop 2048 l) (cleared l 512)
    (rw (length-append, n, length-drop, cleared_length l 512) (omega arith))
    (λ i _. split (ltb i 2048)
    (λ b. let f : i < 2048 = ltb-true i 2048 b in
    get_or_append_left m (drop 2048 l) 0 i (rw n f) ∙ (rw e (get_or-replicate 2048 i 0 0 f)) ∙ sym (cleared_zero l 512 i f))
    (λ b. let f : 2048 ≤ i = ltb-false i 2048 b in
    let q : 2048 + (i - 2048) ≡ i = omega arith in
    get_or-append_right m (drop 2048 l) 2048 i 0 n f ∙ (get_or-drop 2048 l (i - 2048) 0 ∙ ap (λ (j : ℕ). get_or l j 0) q)
    ∙ sym (cleared_other l 512 i f)))

-- ---- the whole round

cleared_same : (l m : List ℕ) → length l ≡ length m → drop 2048 l ≡ drop 2048 m → cleared l 512 ≡ cleared m 512
cleared_same l m e d =
    ext_get_or 0 (cleared l 512) (cleared m 512) (cleared_length l 512 ∙ e ∙ sym (cleared_length m 512))
    (λ i _. split (ltb i 2048)
    (λ b. let h : i < 2048 = ltb-true i 2048 b in cleared_zero l 512 i h ∙ sym (cleared_zero m 512 i h))
    (λ b. let h : 2048 ≤ i = ltb-false i 2048 b in
    let q : 2048 + (i - 2048) ≡ i = omega arith in
    let same : get_or l i 0 ≡ get_or m i 0 =
    ap (λ (j : ℕ). get_or l j 0) (sym q) ∙ sym (get_or-drop 2048 l (i - 2048) 0) ∙ ap (λ (k : List ℕ). get_or k (i - 2048) 0) d
    ∙ get_or-drop 2048 m (i - 2048) 0 ∙ ap (λ (j : ℕ). get_or m j 0) q in
    cleared_other l 512 i h ∙ same ∙ sym (cleared_other m 512 i h)))

fresh_same : (t l m : List ℕ) → length l ≡ length m → drop 2048 l ≡ drop 2048 m → fresh_bytes t l ≡ fresh_bytes t m
unfolding fresh_bytes image
fresh_same t l m e d = rw (cleared_same l m e d)

pub start_fresh : (t l m : List ℕ) → length l ≡ length m → drop 2048 l ≡ drop 2048 m → (start_on t l).0 ≡ 0 → (start_on t l).1 ≡ (start_on t m).1
unfolding start_on
start_fresh t l m e d =
    split (table_fits t)
    (λ a. split (ltb (length l) 2048)
    (λ b. rw (a, b) (λ h. absurd (omega arith)))
    (λ b. let c : ltb (length m) 2048 ≡ false = rw e at b in rw (a, b, c) (λ h. fresh_same t l m e d)))
    (λ a. rw a (λ h. absurd (omega arith)))
