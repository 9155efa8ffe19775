-- A word of the text against a spelling: what the loop over both keeps, that the rests decide.
use Rattle.lib_base.proofs.Prelude.{ℕ, ◌≤◌, ◌<◌, ◌+◌, ◌-◌, suc, ◌≡◌, ◌∙◌, sym, ap, true, false, List, ◌∷◌, length, get_or}
use Rattle.lib_base.proofs.Prelude.{take, drop, length-drop, drop_of_length-le, length-take-le, drop-cons, eqb, add-one}
use Rattle.lib_base.proofs.Prelude.{ne_eqb, eq-eqb, arith}
use Rattle.lib_base.specs.Basics.{pick}
use Rattle.lib_base.proofs.Tools.{split}
use Rattle.source_language.specs.Tokens.{same}
use Rattle.source_language.proofs.Scans.{same_is}

pub record SpelledSoFar (text : List ℕ) (at n : ℕ) (word : List ℕ) (i : ℕ) : Type 0 where
  pub whole : same (take n (drop at text)) word ≡ same (take (n - i) (drop (at + i) text)) (drop i word)
  pub long : n ≡ length word
  pub inside : at + n ≤ length text
  pub onward : i ≤ n

pub spelling_start : (text : List ℕ) (at n : ℕ) (word : List ℕ) → n ≡ length word → at + n ≤ length text → SpelledSoFar text at n word 0
spelling_start text at n word e h =
    let p : at + 0 ≡ at = omega arith in
    let q : n - 0 ≡ n = omega arith in
    record { whole = rw (p, q); long = e; inside = h; onward = omega arith }

-- words of other lengths differ
pub spelling_other : {A : Type 0} (text : List ℕ) (at n : ℕ) (word : List ℕ) (x y : A) → (n ≡ length word → ⊥) → at + n ≤ length text
    → y ≡ pick (same (take n (drop at text)) word) x y
spelling_other text at n word x y e h =
    let l : n ≤ length (drop at text) = rw (length-drop at text) (omega arith) in
    split (same (take n (drop at text)) word)
    (λ t. absurd (e (sym (length-take-le n (drop at text) l) ∙ ap length (same_is (take n (drop at text)) word t)))) (λ f. rw f)

module _ {text : List ℕ} {at n : ℕ} {word : List ℕ} {i : ℕ} (s : SpelledSoFar text at n word i) where
  front : i < n → take (n - i) (drop (at + i) text) ≡ get_or text (at + i) 0 ∷ take (n - (i + 1)) (drop (at + (i + 1)) text)
  front h =
      let l : at + i < length text = omega (arith, s.inside) in
      let m : n - i ≡ suc (n - (i + 1)) = omega arith in
      let k : suc (at + i) ≡ at + (i + 1) = omega arith in
      rw (drop-cons text (at + i) 0 l, m, k)

  opened : i < n → same (take (n - i) (drop (at + i) text)) (drop i word)
      ≡ pick (eqb (get_or text (at + i) 0) (get_or word i 0)) (same (take (n - (i + 1)) (drop (at + (i + 1)) text)) (drop (i + 1) word)) false
  unfolding same
  opened h = let l : i < length word = omega (arith, s.long) in rw (front h, drop-cons word i 0 l, add-one i)

  pub spelling_turn : i < n → get_or text (at + i) 0 ≡ get_or word i 0 → SpelledSoFar text at n word (i + 1)
  spelling_turn h e =
      record {
        whole = s.whole ∙ opened h ∙ rw (eq-eqb (get_or text (at + i) 0) (get_or word i 0) e);
        long = s.long;
        inside = s.inside;
        onward = omega arith;
      }

  pub spelling_stop : {A : Type 0} (x y : A) → i < n → (get_or text (at + i) 0 ≡ get_or word i 0 → ⊥) → y ≡ pick (same (take n (drop at text)) word) x y
  spelling_stop x y h e = rw (s.whole, opened h, ne_eqb (get_or text (at + i) 0) (get_or word i 0) e)

  all_same : n ≤ i → same (take n (drop at text)) word ≡ true
  unfolding same
  all_same h =
      let m : n - i ≡ 0 = omega arith in
      let l : length word ≤ i = omega (arith, s.long) in
      s.whole ∙ rw (m, drop_of_length-le word l)

  pub spelling_end : {A : Type 0} (x y : A) → n ≤ i → x ≡ pick (same (take n (drop at text)) word) x y
  spelling_end x y h = rw (all_same h)
