-- A name that is found by halves is the one there; and the numbers beside names mean what they are made for.
use Rattle.lib_base.proofs.Prelude.{ℕ, ◌≤◌, ◌<◌, ◌+◌, ◌-◌, suc, zero, ◌*◌, ◌%◌, ◌/◌, ◌≡◌, refl, ap, true, false, Bool}
use Rattle.lib_base.proofs.Prelude.{List, [], ◌∷◌, length, get_or, take, drop, eqb, ltb, leb, eqb-true, le-ltb}
use Rattle.lib_base.proofs.Prelude.{lt-ltb, ltb-false, ltb-true, arith}
use Rattle.lib_base.specs.Basics.{pick}
use Rattle.lib_base.proofs.Tools.{by_test, split, through}
use Rattle.source_language.specs.Tokens.{same, in_word}
use Rattle.source_language.specs.Scanner.{run_of_kind}
use Rattle.source_coding.specs.Places.{name_at, index_in, behaviour_or_row, meaning_at}
use Rattle.source_names.specs.Search.{order_of_bytes, order_at, by_order, seek, found_in}
use Rattle.source_names.specs.Known.{word_only, number_means, cells_meant, meaning_number}
use Rattle.std.specs.declared.cmp.Ordering.{Ordering}
use Rattle.std.specs.declared.cmp.Ordering.TheVariants.{Less, Equal, Greater}
use Rattle.source_names.proofs.Laws.{name_goes, name_stops}

-- ---- names are words

run_only : (bs : List ℕ) → word_only (run_of_kind in_word bs) ≡ true
unfolding run_of_kind word_only
run_only [] = refl
run_only (b ∷ bs) = split (in_word b) (λ t. rw (t, t) (run_only bs)) (λ f. rw f refl)

pub name_only : (text : List ℕ) (p : ℕ) → word_only (name_at text p) ≡ true
unfolding name_at
name_only text p = run_only (drop p text)

-- ---- what is found is the same

bytes_differ : (b c : ℕ) → order_of_bytes b c ≡ Equal → ⊥
bytes_differ b c e =
    let z : by_order (order_of_bytes b c) 0 1 0 ≡ 0 =
    by_test (λ (o : Ordering). by_order o 0 1 0 ≡ 0) (in_word c)
    (λ t. by_test (λ (o : Ordering). by_order o 0 1 0 ≡ 0) (ltb b c) (λ h. refl) (λ h. refl)) (λ f. refl) in
    let y : by_order (order_of_bytes b c) 0 1 0 ≡ 1 = ap (λ (o : Ordering). by_order o 0 1 0) e in
    absurd (omega arith)

end_same : (b : Bool) → pick b Less Equal ≡ Equal → b ≡ false
end_same true e = let y : ◌≡◌ {A = ℕ} 0 1 = ap (λ (o : Ordering). by_order o 0 1 0) e in absurd (omega arith)
end_same false e = refl

pub order_same : (text : List ℕ) (q : ℕ) (s : List ℕ) → word_only s ≡ true → order_at text q s ≡ Equal → same s (name_at text q) ≡ true
unfolding order_at word_only same
order_same text q [] w e = rw (name_stops text q (end_same (in_word (get_or text q 0)) e)) refl
order_same text q (b ∷ s) w e =
    let a = through (in_word b) (word_only s) w in
    split (eqb b (get_or text q 0))
    (λ t.
    let c = eqb-true b (get_or text q 0) t in
    let i : in_word (get_or text q 0) ≡ true = rw (← c) a.0 in
    rw (name_goes text q i, t) (order_same text (q + 1) s a.1 (rw t at e)))
    (λ f. absurd (bytes_differ b (get_or text q 0) (rw f at e)))

by_order_law : (P : ℕ → Type 0) (o : Ordering) (x y z : ℕ) → (o ≡ Less → P x) → (o ≡ Equal → P y) → (o ≡ Greater → P z) → P (by_order o x y z)
by_order_law P Less x y z f g h = f refl
by_order_law P Equal x y z f g h = g refl
by_order_law P Greater x y z f g h = h refl

module _ (text places s : List ℕ) (top : ℕ) (only : word_only s ≡ true) where
  abbrev Met : ℕ → Type 0
  Met r = r < top → same s (name_at text (get_or places r 0)) ≡ true

  seek_met : (k lo hi : ℕ) → Met (seek text places s top k lo hi)
  unfolding seek
  seek_met zero lo hi = λ h. absurd (omega arith)
  seek_met (suc k) lo hi =
      by_test Met (leb hi lo) (λ t h. absurd (omega arith))
      (λ t. by_test Met (ltb (length text) (get_or places ((lo + hi) / 2) 0)) (λ u h. absurd (omega arith))
      (λ u. by_order_law Met (order_at text (get_or places ((lo + hi) / 2) 0) s) (seek text places s top k lo ((lo + hi) / 2)) ((lo + hi) / 2) (seek text places s top k ((lo + hi) / 2 + 1) hi)
      (λ e. seek_met k lo ((lo + hi) / 2)) (λ e h. order_same text (get_or places ((lo + hi) / 2) 0) s only e) (λ e. seek_met k ((lo + hi) / 2 + 1) hi)))

-- where all are in order
pub found_met : (text places s : List ℕ) → word_only s ≡ true → found_in text places (length places) s < length places
    → same s (name_at text (get_or places (found_in text places (length places) s) 0)) ≡ true
unfolding found_in
found_met text places s only =
    by_test (λ (r : ℕ). r < length places → same s (name_at text (get_or places r 0)) ≡ true) (ltb (seek text places s (length places) 7 0 (length places)) (length places))
    (λ t. seek_met text places s (length places) only 7 0 (length places)) (λ f h. absurd (omega arith))

-- ---- where none are, one after another

pub found_plain : (text places s : List ℕ) → found_in text places 0 s ≡ index_in text (take (length places - 0) (drop 0 places)) s
unfolding found_in
found_plain text places s = rw (le-ltb (seek text places s 0 7 0 0) 0 (omega arith)) (omega arith)

-- ---- meanings by number

cells_mean : (i c : ℕ) → i < 128 → number_means (cells_meant i c) ≡ behaviour_or_row i c
cells_mean i c h =
    split (ltb c 2)
    (λ t.
    let a : (i + 128) % 128 ≡ i = omega arith in
    let b : (i + 128) / 128 ≡ 1 = omega arith in
    rw (t, le-ltb (i + 128) 128 (omega arith), a, b))
    (λ f.
    let g = ltb-false c 2 f in
    let a : (i + c * 128) % 128 ≡ i = omega arith in
    let b : (i + c * 128) / 128 ≡ c = omega arith in
    rw (f, le-ltb (i + c * 128) 128 (omega arith), a, b, f))

pub number_means_law : (params : ℕ) (firsts : List ℕ) (j : ℕ) → params ≤ 8 → get_or firsts (j - params) 0 ≤ 64 → number_means (meaning_number params firsts j) ≡ meaning_at params firsts j
number_means_law params firsts j few low =
    split (ltb j params) (λ t. let h = ltb-true j params t in rw (t, lt-ltb j 128 (omega arith)))
    (λ f. rw f (cells_mean (get_or firsts (j - params) 0) (get_or firsts (suc (j - params)) 0 - get_or firsts (j - params) 0) (omega arith)))
