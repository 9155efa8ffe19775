-- `if` by its bytes: in the table of reserved words one row has its number, so that a word with another second byte or
-- with a third one is another.
use Rattle.lib_base.proofs.Prelude.{ℕ, ◌<◌, ◌+◌, suc, ◌≡◌, refl, ◌∙◌, sym, ap, true, false, Bool, ◌||◌, ◌&&◌, not}
use Rattle.lib_base.proofs.Prelude.{false≢true, List, [], ◌∷◌, length, get_or, drop, get_or-drop, List·getD-eq-default}
use Rattle.lib_base.proofs.Prelude.{drop-cons, eqb, ltb, leb, eq-eqb, ltb-true, ltb-false, arith}
use Rattle.lib_base.specs.Basics.{pick}
use Rattle.lib_base.proofs.Tools.{by_test, split}
use Rattle.lib_signature.specs.Numbers.{if_fn}
use Rattle.source_language.specs.Tokens.{SheetToken, sign, Spelling, spelled, reserved, same, sign_of, is_digit, is_letter, in_word}
use Rattle.source_language.specs.Scanner.{run_of_kind, beyond_run, FirstInText, begins, long_word, first_in_text, scan_on}
use Rattle.source_language.specs.Reader.{sign_in, sign_at}
use Rattle.source_language.proofs.Scans.{and_both, same_is}
use Rattle.source_coding.specs.Places.{tokens_from}
use Rattle.source_tokens.specs.Token.{TokenBegins, PassedOver}
use Rattle.source_tokens.proofs.Opened.{not_by_byte}
use Rattle.source_tokens.proofs.Scanned.{all_from, tokens_first, tokens_begin}
use Rattle.source_onward.specs.Onward.{SignBefore}

-- ---- a number that one spelling has

unfoldable spelled_by : List ℕ → ℕ → List Spelling → Bool
spelled_by s n [] = true
spelled_by s n (spelled t m ∷ rows) = (not (eqb m n) || same t s) && spelled_by s n rows

spelled_so : (s : List ℕ) (n : ℕ) (w : List ℕ) (rows : List Spelling) → spelled_by s n rows ≡ true → 0 < n → sign_of w rows ≡ n → w ≡ s
unfolding spelled_by sign_of
spelled_so s n w [] o h e = absurd (omega arith)
spelled_so s n w (spelled t m ∷ rows) o h e =
    let both = and_both (not (eqb m n) || same t s) (spelled_by s n rows) o in
    split (same w t)
    (λ y.
    let q : m ≡ n = rw y at e in
    let r : same t s ≡ true = rw (eq-eqb m n q) at both.0 in
    same_is w t y ∙ same_is t s r)
    (λ f. spelled_so s n w rows both.1 h (rw f at e))

if_spelled : (w : List ℕ) → sign_of w reserved ≡ if_fn → w ≡ 105 ∷ 102 ∷ []
unfolding spelled_by reserved same
if_spelled w = spelled_so (105 ∷ 102 ∷ []) if_fn w reserved refl (omega arith)

-- ---- the word that begins with `i`

i_first : (p : ℕ) (bs : List ℕ) → first_in_text p 105 bs ≡ long_word p (105 ∷ run_of_kind in_word bs) (beyond_run in_word bs)
unfolding first_in_text is_digit is_letter
i_first p bs = refl

scan_if : (p : ℕ) (go : List ℕ → List SheetToken) (w rest : List ℕ) → sign_at (scan_on p go (long_word p w rest)) ≡ if_fn → w ≡ 105 ∷ 102 ∷ []
scan_if p go w rest =
    by_test (λ (f : FirstInText). sign_at (scan_on p go f) ≡ if_fn → w ≡ 105 ∷ 102 ∷ []) (leb (length w) 32)
    (λ l. by_test (λ (t : SheetToken). sign_in t ≡ if_fn → w ≡ 105 ∷ 102 ∷ []) (eqb (sign_of w reserved) 0) (λ e z. absurd (omega arith)) (λ e z. if_spelled w z))
    (λ l z. absurd (omega arith))

nothing_run : (t : Bool) (b : ℕ) (l : List ℕ) → pick t (b ∷ l) [] ≡ [] → t ≡ false
nothing_run true b l e = absurd (omega (arith, ap length e))
nothing_run false b l e = refl

run_none : (bs : List ℕ) → run_of_kind in_word bs ≡ [] → in_word (get_or bs 0 0) ≡ false
unfolding run_of_kind in_word is_digit is_letter
run_none [] e = refl
run_none (b ∷ bs) e = nothing_run (in_word b) b (run_of_kind in_word bs) e

-- the run behind the first byte is `f` alone
run_second : (bs : List ℕ) → run_of_kind in_word bs ≡ 102 ∷ [] → (get_or bs 0 0 ≡ 102) × (in_word (get_or bs 1 0) ≡ false)
unfolding run_of_kind
run_second [] e = absurd (omega (arith, ap length e))
run_second (b ∷ bs) e =
    split (in_word b)
    (λ y.
    let h : b ∷ run_of_kind in_word bs ≡ 102 ∷ [] = rw y at e in
    (ap (λ (l : List ℕ). get_or l 0 0) h, run_none bs (ap (λ (l : List ℕ). drop 1 l) h)))
    (λ f. let h : [] ≡ 102 ∷ [] = rw f at e in absurd (omega (arith, ap length h)))

f_in : in_word 102 ≡ true
unfolding in_word is_digit is_letter
f_in = refl

if_first : (p : ℕ) (rest : List ℕ) → in_word (get_or rest 0 0) ≡ false → first_in_text p 105 (102 ∷ rest) ≡ begins (sign p if_fn) rest
unfolding first_in_text is_digit is_letter run_of_kind beyond_run sign_of reserved same
if_first p [] e = rw f_in
if_first p (c ∷ rest) e = rw (f_in, e)

-- ---- at a place of a text

module _ (text : List ℕ) (at : ℕ) (u : TokenBegins text at) (e : get_or text at 0 ≡ 105) where
  second : get_or (drop (suc at) text) 0 0 ≡ get_or text (at + 1) 0
  second = get_or-drop (suc at) text 0 0 ∙ ap (λ (n : ℕ). get_or text n 0) (omega arith)

  third : get_or (drop (suc at) text) 1 0 ≡ get_or text (at + 2) 0
  third = get_or-drop (suc at) text 1 0 ∙ ap (λ (n : ℕ). get_or text n 0) (omega arith)

  if_bytes : sign_at (tokens_from text at) ≡ if_fn → (get_or text (at + 1) 0 ≡ 102) × (in_word (get_or text (at + 2) 0) ≡ false)
  if_bytes z =
      let w = scan_if at (all_from text) (105 ∷ run_of_kind in_word (drop (suc at) text)) (beyond_run in_word (drop (suc at) text)) (rw (tokens_first text at u, e, i_first at (drop (suc at) text)) at z) in
      let r = run_second (drop (suc at) text) (ap (λ (l : List ℕ). drop 1 l) w) in
      (sym second ∙ r.0, rw third at r.1)

  no_if : (sign_at (tokens_from text at) ≡ if_fn → ⊥) → SignBefore text at at 0 (at + 2)
  no_if h =
      let o : PassedOver text at at = record { onward = omega arith; within = omega (arith, u.inside); all = refl; begun = λ l. u } in
      record {
        not_is = λ z. absurd (not_by_byte text at at o (λ q. omega arith) z);
        if_is = λ z. absurd (h z);
        within = o.within;
        onward = λ x y. absurd (omega arith);
        further = λ x y. absurd (omega arith);
      }

  pub if_other : (get_or text (at + 1) 0 ≡ 102 → ⊥) → SignBefore text at at 0 (at + 2)
  if_other h = no_if (λ z. h (if_bytes z).0)

  pub if_longer : in_word (get_or text (at + 2) 0) ≡ true → SignBefore text at at 0 (at + 2)
  if_longer h = no_if (λ z. false≢true (sym (if_bytes z).1 ∙ h))

  pub if_stands : get_or text (at + 1) 0 ≡ 102 → in_word (get_or text (at + 2) 0) ≡ false → SignBefore text at at if_fn (at + 2)
  if_stands s t =
      let l : at + 1 < length text = split (ltb (at + 1) (length text)) (λ t. ltb-true (at + 1) (length text) t)
      (λ f. let d = List·getD-eq-default text 0 (ltb-false (at + 1) (length text) f) in absurd (omega arith)) in
      let m : suc at < length text = omega arith in
      let a : get_or text (suc at) 0 ≡ 102 = ap (λ (n : ℕ). get_or text n 0) (omega arith) ∙ s in
      let b : suc (suc at) ≡ at + 2 = omega arith in
      let d : drop (suc at) text ≡ 102 ∷ drop (at + 2) text = drop-cons text (suc at) 0 m ∙ rw (a, b) in
      let y : in_word (get_or (drop (at + 2) text) 0 0) ≡ false = let n : at + 2 + 0 ≡ at + 2 = omega arith in rw (get_or-drop (at + 2) text 0 0, n) t in
      let q : tokens_from text at ≡ sign at if_fn ∷ tokens_from text (at + 2) = tokens_begin text at u (sign at if_fn) (at + 2) (rw (e, d) (if_first at (drop (at + 2) text) y)) in
      record {
        not_is = λ z. absurd (omega (arith, z, ap sign_at q));
        if_is = λ z. refl;
        within = omega (arith, u.inside);
        onward = λ x y. q;
        further = λ x y. (omega arith, omega arith);
      }
