-- Laws of the loops that note first cells and count parameters: what is left to do from the place on is what there was
-- to do at the start.
use Rattle.lib_base.proofs.Prelude.{ℕ, ◌≤◌, ◌<◌, ◌+◌, ◌-◌, zero, suc, ◌≡◌, refl, ◌∙◌, sym, ap, ◌≢◌, List, [], length, get_or, drop}
use Rattle.lib_base.proofs.Prelude.{length-drop, drop_of_length-le, drop-cons, eqb, ltb, add-one, ne_eqb, le-ltb}
use Rattle.lib_base.proofs.Prelude.{lt-ltb, arith}
use Rattle.lib_base.specs.Basics.{pick}
use Rattle.sheet_walk.specs.Fields.{after_field, cells_in_front}
use Rattle.sheet_walk.specs.Scanner.{left_after, tag_after}
use Rattle.source_walk.specs.Fields.{first_cell, needed_after, needed_in}
use Rattle.sheet_walk.proofs.Places.{turns}

-- ---- the first cell of a field

pub record Seeking (s : List ℕ) (first i at j left : ℕ) : Type 0 where
  pub whole : first_cell left j (drop at s) i ≡ first_cell (length s) 0 (drop first s) i
  pub inside : at ≤ length s
  pub below : j ≤ i

seek_opens : (k j : ℕ) (b : List ℕ) (i : ℕ)
    → first_cell (suc k) j b i ≡ pick (eqb (length b) 0) i (pick (ltb i (j + cells_in_front b)) j (first_cell k (j + cells_in_front b) (after_field b) i))
unfolding first_cell
seek_opens k j b i = refl

seek_end : (k j i : ℕ) → first_cell k j [] i ≡ i
unfolding first_cell
seek_end zero j i = refl
seek_end (suc k) j i = refl

pub some_left : (s : List ℕ) (at : ℕ) → at ≤ length s → at ≢ length s → length (drop at s) ≢ 0
some_left s at h n = simp length-drop (omega arith)

pub seeking_on : {s : List ℕ} {first i at j left x y : ℕ} → Seeking s first i at j left → 0 < left → at ≢ length s → x ≡ cells_in_front (drop at s) → j + x ≤ i
    → drop y s ≡ after_field (drop at s) → y ≤ length s → Seeking s first i y (j + x) (left - 1)
seeking_on {s} {first} {i} {at} {j} {left} {x} {y} u h n e b d l = record {
  whole =
      sym (ap (λ (k : ℕ). first_cell k j (drop at s) i) (turns left h)
      ∙ (seek_opens (left - 1) j (drop at s) i
      ∙ rw (ne_eqb (length (drop at s)) 0 (some_left s at u.inside n), ← e, le-ltb i (j + x) b, ← d)))
      ∙ u.whole;
  inside = l;
  below = b;
}

pub seeking_finds : {s : List ℕ} {first i at j left x : ℕ} → Seeking s first i at j left → 0 < left → at ≢ length s → x ≡ cells_in_front (drop at s) → i < j + x
    → j ≡ first_cell (length s) 0 (drop first s) i
seeking_finds {s} {first} {i} {at} {j} {left} {x} u h n e b =
    sym (ap (λ (k : ℕ). first_cell k j (drop at s) i) (turns left h)
    ∙ (seek_opens (left - 1) j (drop at s) i ∙ rw (ne_eqb (length (drop at s)) 0 (some_left s at u.inside n), ← e, lt-ltb i (j + x) b)))
    ∙ u.whole

pub seeking_ends : {s : List ℕ} {first i at j left : ℕ} → Seeking s first i at j left → at ≡ length s → i ≡ first_cell (length s) 0 (drop first s) i
seeking_ends {s} {first} {i} {at} {j} {left} u h =
    let d : drop at s ≡ [] = drop_of_length-le s (omega arith) in
    sym (rw d (seek_end left j i)) ∙ u.whole

-- ---- parameters

pub record Counting (bs : List ℕ) (at t k n : ℕ) : Type 0 where
  pub whole : needed_in t k n (drop at bs) ≡ needed_in 0 0 0 bs
  pub few : n ≤ 256

pub counting_on : {bs : List ℕ} {at t k n b m j u : ℕ} → Counting bs at t k n → at < length bs → b ≡ get_or bs at 0 → m ≡ needed_after t k n b → m ≤ 256
    → u ≡ tag_after t k b → j ≡ left_after k b → Counting bs (at + 1) u j m
unfolding needed_in
counting_on {bs} {at} {t} {k} {n} {b} {m} {j} {u} i h e p l v q = record {
  whole = rw (add-one at, p, q, v, e) (sym (ap (needed_in t k n) (drop-cons bs at 0 h)) ∙ i.whole);
  few = l;
}

pub counting_ends : {bs : List ℕ} {at t k n : ℕ} → Counting bs at t k n → length bs ≤ at → n ≡ needed_in 0 0 0 bs
unfolding needed_in
counting_ends {bs} {at} {t} {k} {n} u h = sym (ap (needed_in t k n) (drop_of_length-le bs h)) ∙ u.whole
