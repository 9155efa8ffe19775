-- Names by their places: two are the same where their bytes are and no byte of a word is behind the second; and what
-- the loop over several keeps, a place at a time.
use Rattle.lib_base.proofs.Prelude.{ℕ, ◌≤◌, ◌<◌, ◌+◌, ◌-◌, suc, zero, ◌≡◌, refl, ◌∙◌, sym, ap, true, false, true≢false}
use Rattle.lib_base.proofs.Prelude.{not, List, [], ◌∷◌, ◌++◌, length, get_or, take, drop, length-drop}
use Rattle.lib_base.proofs.Prelude.{List·getD-eq-default, drop_of_length-le, length-take-le, get_or-drop, drop-cons}
use Rattle.lib_base.proofs.Prelude.{take-suc, eqb, ltb, add-one, ne_eqb, eqb-true, le-ltb, lt-ltb, eq-eqb, ltb-false}
use Rattle.lib_base.proofs.Prelude.{ltb-true, arith}
use Rattle.lib_base.specs.Basics.{pick}
use Rattle.lib_base.proofs.Tools.{split}
use Rattle.source_language.specs.Tokens.{same, is_digit, is_letter, in_word}
use Rattle.source_language.specs.Limits.{among}
use Rattle.source_language.specs.Scanner.{run_of_kind}
use Rattle.source_language.proofs.Scans.{and_both, same_is}
use Rattle.source_coding.specs.Places.{name_at, names_held, index_in}
use Rattle.source_tokens.proofs.Runs.{run_here, run_ends, run_out, run_short}
use Rattle.source_names.specs.Bytes.{same_bytes}

-- ---- one name at a place

zero_no_word : in_word 0 ≡ false
unfolding in_word is_letter is_digit
zero_no_word = refl

module _ (text : List ℕ) (i : ℕ) where
  pub word_inside : in_word (get_or text i 0) ≡ true → i < length text
  word_inside e =
      split (ltb i (length text)) (λ t. ltb-true i (length text) t)
      (λ f.
      let l : length text ≤ i = ltb-false i (length text) f in
      absurd (true≢false (sym e ∙ ap in_word (List·getD-eq-default text 0 l) ∙ zero_no_word)))

  pub name_goes : in_word (get_or text i 0) ≡ true → name_at text i ≡ get_or text i 0 ∷ name_at text (i + 1)
  unfolding name_at
  name_goes e = rw (add-one i) (run_here in_word text i (word_inside e) e)

  pub name_stops : in_word (get_or text i 0) ≡ false → name_at text i ≡ []
  unfolding name_at
  name_stops e =
      split (ltb i (length text)) (λ t. run_ends in_word text i (ltb-true i (length text) t) e)
      (λ f. run_out in_word text i (ltb-false i (length text) f))

-- the bytes of a run are of a word, and the one behind it is not
run_has : (bs : List ℕ) (i : ℕ) → i < length (run_of_kind in_word bs) → in_word (get_or bs i 0) ≡ true
unfolding run_of_kind
run_has [] i h = absurd (omega arith)
run_has (b ∷ bs) zero h = split (in_word b) (λ t. t) (λ f. absurd (omega (arith, rw f at h)))
run_has (b ∷ bs) (suc i) h = split (in_word b) (λ t. run_has bs i (omega (arith, rw t at h))) (λ f. absurd (omega (arith, rw f at h)))

run_lacks : (bs : List ℕ) → in_word (get_or bs (length (run_of_kind in_word bs)) 0) ≡ false
unfolding run_of_kind
run_lacks [] = zero_no_word
run_lacks (b ∷ bs) = split (in_word b) (λ t. rw t (run_lacks bs)) (λ f. rw f f)

module _ (text : List ℕ) (p : ℕ) where
  pub name_inside : length (name_at text p) ≤ length text - p
  unfolding name_at
  name_inside = omega (arith, run_short in_word (drop p text), length-drop p text)

  pub in_name : (i : ℕ) → i < length (name_at text p) → in_word (get_or text (p + i) 0) ≡ true
  unfolding name_at
  in_name i h = rw (get_or-drop p text i 0) at (run_has (drop p text) i h)

  pub behind_name : in_word (get_or text (p + length (name_at text p)) 0) ≡ false
  unfolding name_at
  behind_name = rw (get_or-drop p text (length (run_of_kind in_word (drop p text))) 0) at (run_lacks (drop p text))

-- ---- two names

-- so far they are the same, and what is left decides
record SameSoFar (text : List ℕ) (p q a b : ℕ) : Type 0 where
  whole : same (name_at text p) (name_at text q) ≡ same (name_at text a) (name_at text b)

module _ {text : List ℕ} {p q a b : ℕ} (s : SameSoFar text p q a b) where
  same_turn : in_word (get_or text a 0) ≡ true → get_or text a 0 ≡ get_or text b 0 → SameSoFar text p q (a + 1) (b + 1)
  unfolding same
  same_turn e d =
      record { whole = s.whole ∙ rw (name_goes text a e, name_goes text b (rw d at e), eq-eqb (get_or text a 0) (get_or text b 0) d) }

  same_stop : in_word (get_or text a 0) ≡ true → (get_or text a 0 ≡ get_or text b 0 → ⊥) → false ≡ same (name_at text p) (name_at text q)
  unfolding same
  same_stop e d =
      split (in_word (get_or text b 0))
      (λ t. rw (s.whole, name_goes text a e, name_goes text b t, ne_eqb (get_or text a 0) (get_or text b 0) d))
      (λ f. rw (s.whole, name_goes text a e, name_stops text b f))

  same_end : in_word (get_or text a 0) ≡ false → not (in_word (get_or text b 0)) ≡ same (name_at text p) (name_at text q)
  unfolding same
  same_end e =
      split (in_word (get_or text b 0)) (λ t. rw (s.whole, name_stops text a e, name_goes text b t, t))
      (λ f. rw (s.whole, name_stops text a e, name_stops text b f, f))

-- by their bytes, the first having n
module _ (text : List ℕ) (p q n : ℕ) (size : n ≡ length (name_at text p)) where
  so_far : (k : ℕ) → k ≤ n → same_bytes text p q k ≡ true → SameSoFar text p q (p + k) (q + k)
  unfolding same_bytes
  so_far zero h t =
      let a : p + 0 ≡ p = omega arith in
      let b : q + 0 ≡ q = omega arith in
      record { whole = rw (a, b) }
  so_far (suc k) h t =
      let both = and_both (same_bytes text p q k) (eqb (get_or text (p + k) 0) (get_or text (q + k) 0)) t in
      let a : p + suc k ≡ p + k + 1 = omega arith in
      let b : q + suc k ≡ q + k + 1 = omega arith in
      rw (a, b)
      (same_turn (so_far k (omega arith) both.0) (in_name text p k (omega arith)) (eqb-true (get_or text (p + k) 0) (get_or text (q + k) 0) both.1))

  unlike : (k : ℕ) → k ≤ n → same_bytes text p q k ≡ false → false ≡ same (name_at text p) (name_at text q)
  unfolding same_bytes
  unlike zero h f = absurd (true≢false f)
  unlike (suc k) h f =
      split (same_bytes text p q k)
      (λ t.
      same_stop (so_far k (omega arith) t) (in_name text p k (omega arith))
      (λ d. true≢false (sym (rw (t, eq-eqb (get_or text (p + k) 0) (get_or text (q + k) 0) d)) ∙ f))) (λ g. unlike k (omega arith) g)

  pub names_unlike : same_bytes text p q n ≡ false → false ≡ same (name_at text p) (name_at text q)
  names_unlike f = unlike n (omega arith) f

  pub names_alike : same_bytes text p q n ≡ true → not (in_word (get_or text (q + n) 0)) ≡ same (name_at text p) (name_at text q)
  names_alike t = same_end (so_far n (omega arith) t) (rw (← size) at (behind_name text p))

  -- of no bytes
  pub no_name : n ≡ 0 → not (in_word (get_or text q 0)) ≡ same (name_at text p) (name_at text q)
  unfolding same_bytes
  no_name e =
      let b : q + n ≡ q = omega arith in
      rw b at (names_alike (rw e))

  -- where the text has fewer bytes from the second place on
  pub no_room : length text - q < n → false ≡ same (name_at text p) (name_at text q)
  no_room h =
      split (same (name_at text p) (name_at text q))
      (λ t. absurd (omega (arith, name_inside text q, ap length (same_is (name_at text p) (name_at text q) t)))) (λ f. sym f)

-- ---- which of several

pub record IndexSoFar (text places s : List ℕ) (i : ℕ) : Type 0 where
  pub whole : index_in text places s ≡ i + index_in text (drop i places) s
  pub within : i ≤ length places

pub index_start : (text places s : List ℕ) → IndexSoFar text places s 0
index_start text places s = record { whole = omega arith; within = omega arith }

module _ {text places s : List ℕ} {i : ℕ} (k : IndexSoFar text places s i) where
  here : i < length places → index_in text (drop i places) s ≡ pick (same s (name_at text (get_or places i 0))) 0 (suc (index_in text (drop (suc i) places) s))
  unfolding index_in
  here h = rw (drop-cons places i 0 h)

  pub index_turn : i < length places → same s (name_at text (get_or places i 0)) ≡ false → IndexSoFar text places s (i + 1)
  index_turn h e =
      let q = here h in
      record { whole = k.whole ∙ rw (q, e, add-one i) (omega arith); within = omega arith }

  pub index_found : i < length places → same s (name_at text (get_or places i 0)) ≡ true → i ≡ index_in text places s
  index_found h e = let q = here h in rw (k.whole, q, e) (omega arith)

  nothing_left : (ps : List ℕ) → ps ≡ [] → index_in text ps s ≡ 0
  unfolding index_in
  nothing_left ps e = rw e

  pub index_end : length places ≤ i → i ≡ index_in text places s
  index_end h = let q = nothing_left (drop i places) (drop_of_length-le places h) in rw (k.whole, q) (omega arith)

-- ---- one among several: it has an index

pub up_one : (a b : ℕ) → ltb (suc a) (suc b) ≡ ltb a b
up_one a b =
    split (ltb a b) (λ t. lt-ltb (suc a) (suc b) (omega (arith, ltb-true a b t)) ∙ sym t)
    (λ f. le-ltb (suc a) (suc b) (omega (arith, ltb-false a b f)) ∙ sym f)

module _ (text s : List ℕ) where
  one_behind : (ps : List ℕ) (p : ℕ) → ltb (index_in text (ps ++ (p ∷ [])) s) (suc (length ps)) ≡ pick (same s (name_at text p)) true (ltb (index_in text ps s) (length ps))
  unfolding index_in
  one_behind [] p = split (same s (name_at text p)) (λ t. rw t) (λ f. rw f)
  one_behind (x ∷ ps) p =
      split (same s (name_at text x))
      (λ t.
      let a = lt-ltb 0 (suc (suc (length ps))) (omega arith) in
      let b = lt-ltb 0 (suc (length ps)) (omega arith) in
      rw (t, a, b) (split (same s (name_at text p)) (λ u. rw u) (λ g. rw g)))
      (λ f.
      rw (f, up_one (index_in text (ps ++ (p ∷ [])) s) (suc (length ps)), up_one (index_in text ps s) (length ps)) (one_behind ps p))

  index_tells : (places : List ℕ) (n : ℕ) → n ≤ length places → ltb (index_in text (take n places) s) n ≡ among s (names_held text places n)
  unfolding among names_held index_in
  index_tells places zero h = refl
  index_tells places (suc n) h =
      let q : length (take n places) ≡ n = length-take-le n places (omega arith) in
      rw (take-suc places n 0, ← index_tells places n (omega arith)) (rw q at (one_behind (take n places) (get_or places n 0)))

  pub among_first : (places : List ℕ) (n r : ℕ) → n ≤ length places → r ≡ index_in text (take (n - 0) places) s → ltb r n ≡ among s (names_held text places n)
  among_first places n r h e = let q : n - 0 ≡ n = omega arith in rw e (rw q (index_tells places n h))
