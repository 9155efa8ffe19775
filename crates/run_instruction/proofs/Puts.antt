-- Words written one after the other: at the same place the later stays, at different places the order is nothing, and a
-- word that is put where it stands changes nothing. Byte by byte, from the laws of `set`.
use Rattle.lib_base.proofs.Prelude.{ℕ, ◌<◌, ◌+◌, ◌*◌, ◌%◌, ◌/◌, ◌≡◌, ◌∙◌, sym, ap, ◌≢◌, List, get_or, set, arith}
use lib.Seq.{set_comm, set-set, set-get_or}
use Rattle.lib_word.specs.Word.{get_at, get, put}

abbrev four : List ℕ → ℕ → ℕ → ℕ → ℕ → ℕ → List ℕ
four l a x y z w = set (set (set (set l a x) (a + 1) y) (a + 2) z) (a + 3) w

-- a byte outside the four
set_four : (l : List ℕ) (a x y z w i v : ℕ) → a ≢ i → a + 1 ≢ i → a + 2 ≢ i → a + 3 ≢ i → set (four l a x y z w) i v ≡ four (set l i v) a x y z w
set_four l a x y z w i v e f g h =
    let l₁ = set l a x in
    let l₂ = set l₁ (a + 1) y in
    let l₃ = set l₂ (a + 2) z in
    set_comm l₃ (a + 3) i w v h
    ∙ ap (λ (m : List ℕ). set m (a + 3) w)
    (set_comm l₂ (a + 2) i z v g ∙ ap (λ (m : List ℕ). set m (a + 2) z)
    (set_comm l₁ (a + 1) i y v f ∙ ap (λ (m : List ℕ). set m (a + 1) y) (set_comm l a i x v e)))

-- four bytes outside the four
four_four : (l : List ℕ) (a x y z w b p q r s : ℕ) → b + 3 < a → four (four l a x y z w) b p q r s ≡ four (four l b p q r s) a x y z w
four_four l a x y z w b p q r s h =
    let l₁ = set l b p in
    let l₂ = set l₁ (b + 1) q in
    let l₃ = set l₂ (b + 2) r in
    ap (λ (m : List ℕ). set (set (set m (b + 1) q) (b + 2) r) (b + 3) s) (set_four l a x y z w b p (omega arith) (omega arith) (omega arith) (omega arith))
    ∙ ap (λ (m : List ℕ). set (set m (b + 2) r) (b + 3) s) (set_four l₁ a x y z w (b + 1) q (omega arith) (omega arith) (omega arith) (omega arith))
    ∙ ap (λ (m : List ℕ). set m (b + 3) s) (set_four l₂ a x y z w (b + 2) r (omega arith) (omega arith) (omega arith) (omega arith))
    ∙ set_four l₃ a x y z w (b + 3) s (omega arith) (omega arith) (omega arith) (omega arith)

-- a word below another
pub put_below : (l : List ℕ) (a y k x : ℕ) → k < a → put (put l a y) k x ≡ put (put l k x) a y
unfolding put
put_below l a y k x h =
    four_four l (a * 4) (y / 16777216) (y / 65536 % 256) (y / 256 % 256) (y % 256) (k * 4) (x / 16777216) (x / 65536 % 256) (x / 256 % 256) (x % 256)
    (omega arith)

-- and above it
pub put_above : (l : List ℕ) (a y k x : ℕ) → a < k → put (put l a y) k x ≡ put (put l k x) a y
put_above l a y k x h = sym (put_below l k x a y h)

-- the four bytes again
four_same : (l : List ℕ) (a x y z w p q r s : ℕ) → four (four l a x y z w) a p q r s ≡ four l a p q r s
four_same l a x y z w p q r s =
    let l₁ = set l a p in
    let l₂ = set l₁ (a + 1) q in
    let l₃ = set l₂ (a + 2) r in
    ap (λ (m : List ℕ). set (set (set m (a + 1) q) (a + 2) r) (a + 3) s) first
    ∙ ap (λ (m : List ℕ). set (set m (a + 2) r) (a + 3) s) second
    ∙ ap (λ (m : List ℕ). set m (a + 3) s) third
    ∙ set-set l₃ (a + 3) w s
  where
    first : set (four l a x y z w) a p ≡ set (set (set (set l a p) (a + 1) y) (a + 2) z) (a + 3) w
    first =
        let m₁ = set l a x in
        let m₂ = set m₁ (a + 1) y in
        let m₃ = set m₂ (a + 2) z in
        set_comm m₃ (a + 3) a w p (omega arith)
        ∙ ap (λ (m : List ℕ). set m (a + 3) w)
        (set_comm m₂ (a + 2) a z p (omega arith) ∙ ap (λ (m : List ℕ). set m (a + 2) z)
        (set_comm m₁ (a + 1) a y p (omega arith) ∙ ap (λ (m : List ℕ). set m (a + 1) y) (set-set l a x p)))

    second : set (set (set (set (set l a p) (a + 1) y) (a + 2) z) (a + 3) w) (a + 1) q ≡ set (set (set (set l a p) (a + 1) q) (a + 2) z) (a + 3) w
    second =
        let m₁ = set l a p in
        let m₂ = set m₁ (a + 1) y in
        let m₃ = set m₂ (a + 2) z in
        set_comm m₃ (a + 3) (a + 1) w q (omega arith)
        ∙ ap (λ (m : List ℕ). set m (a + 3) w)
        (set_comm m₂ (a + 2) (a + 1) z q (omega arith) ∙ ap (λ (m : List ℕ). set m (a + 2) z) (set-set m₁ (a + 1) y q))

    third : set (set (set (set (set l a p) (a + 1) q) (a + 2) z) (a + 3) w) (a + 2) r ≡ set (set (set (set l a p) (a + 1) q) (a + 2) r) (a + 3) w
    third =
        let m₂ = set (set l a p) (a + 1) q in
        let m₃ = set m₂ (a + 2) z in
        set_comm m₃ (a + 3) (a + 2) w r (omega arith) ∙ ap (λ (m : List ℕ). set m (a + 3) w) (set-set m₂ (a + 2) z r)

pub put_again : (l : List ℕ) (k x y : ℕ) → put (put l k x) k y ≡ put l k y
unfolding put
put_again l k x y =
    four_same l (k * 4) (x / 16777216) (x / 65536 % 256) (x / 256 % 256) (x % 256) (y / 16777216) (y / 65536 % 256) (y / 256 % 256) (y % 256)

-- the word that stands there, of bytes
pub put_as_it_is : (l : List ℕ) (k : ℕ) → ((i : ℕ) → get_or l i 0 < 256) → put l k (get l k) ≡ l
unfolding put get get_at
put_as_it_is l k bytes =
    let a = get_or l (k * 4) 0 in
    let b = get_or l (k * 4 + 1) 0 in
    let c = get_or l (k * 4 + 2) 0 in
    let d = get_or l (k * 4 + 3) 0 in
    let ha = bytes (k * 4) in
    let hb = bytes (k * 4 + 1) in
    let hc = bytes (k * 4 + 2) in
    let hd = bytes (k * 4 + 3) in
    let w = ((a * 256 + b) * 256 + c) * 256 + d in
    let p : w / 16777216 ≡ a = omega arith in
    let q : w / 65536 % 256 ≡ b = omega arith in
    let r : w / 256 % 256 ≡ c = omega arith in
    let s : w % 256 ≡ d = omega arith in
    rw (p, set-get_or l (k * 4) 0, q, set-get_or l (k * 4 + 1) 0, r, set-get_or l (k * 4 + 2) 0, s, set-get_or l (k * 4 + 3) 0)
