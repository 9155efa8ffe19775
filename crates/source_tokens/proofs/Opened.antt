-- Signs by their first byte: where all rows of a sign in the tables begin with one byte, no other begins its token.
use Rattle.lib_base.proofs.Prelude.{ℕ, ◌<◌, ◌+◌, suc, ◌≡◌, refl, ◌∙◌, ap, true, Bool, ◌||◌, ◌&&◌, not, List, [], ◌∷◌}
use Rattle.lib_base.proofs.Prelude.{length, get_or, drop, List·getD-eq-default, eqb, ltb, leb, add-one, eqb-true, eq-eqb}
use Rattle.lib_base.proofs.Prelude.{ltb-false, ltb-true, arith}
use Rattle.lib_base.specs.Basics.{pick}
use Rattle.lib_base.proofs.Tools.{by_test, split}
use Rattle.lib_signature.specs.Numbers.{not_fn, if_fn}
use Rattle.source_language.specs.Tokens.{SheetToken, name, sign, Spelling, spelled, marks, reserved, same, sign_of, opening, bracket, is_digit, is_letter, in_word, end_sign}
use Rattle.source_language.specs.Scanner.{run_of_kind, FirstInText, nothing, begins, short_mark, mark_at, first_in_text, scan_on}
use Rattle.source_language.specs.Reader.{sign_in, sign_at}
use Rattle.source_language.proofs.Scans.{and_both, same_is}
use Rattle.source_coding.specs.Places.{tokens_from}
use Rattle.source_tokens.specs.Token.{PassedOver, OpeningAt}
use Rattle.source_tokens.proofs.Scanned.{tokens_end, tokens_first, tokens_begin}
use Rattle.source_tokens.proofs.Begun.{tokens_some}

-- ---- a number whose rows begin with one byte

unfoldable begun_by : ℕ → ℕ → List Spelling → Bool
begun_by b n [] = true
begun_by b n (spelled s m ∷ rows) = (not (eqb m n) || eqb (get_or s 0 0) b) && begun_by b n rows

spelled_so : (b n : ℕ) (w : List ℕ) (rows : List Spelling) → begun_by b n rows ≡ true → 0 < n → sign_of w rows ≡ n → get_or w 0 0 ≡ b
unfolding begun_by sign_of
spelled_so b n w [] o h e = absurd (omega arith)
spelled_so b n w (spelled s m ∷ rows) o h e =
    let both = and_both (not (eqb m n) || eqb (get_or s 0 0) b) (begun_by b n rows) o in
    split (same w s)
    (λ t.
    let q : m ≡ n = rw t at e in
    let r : eqb (get_or s 0 0) b ≡ true = rw (eq-eqb m n q) at both.0 in
    ap (λ (l : List ℕ). get_or l 0 0) (same_is w s t) ∙ eqb-true (get_or s 0 0) b r)
    (λ f. spelled_so b n w rows both.1 h (rw f at e))

-- ---- another byte begins another token

module _ (k n : ℕ) (some : (0 < n) × (n < end_sign)) (in_marks : begun_by k n marks ≡ true) (in_words_lem : begun_by k n reserved ≡ true) where
  abbrev NoSuch : FirstInText → Type 0
  NoSuch nothing = Unit {0}
  NoSuch (begins t rest) = sign_in t ≡ n → ⊥

  module _ (p b : ℕ) (h : b ≡ k → ⊥) where
    mark_other : (w : List ℕ) → sign_of (b ∷ w) marks ≡ n → ⊥
    mark_other w e = h (spelled_so k n (b ∷ w) marks in_marks some.0 e)

    short_not : (bs : List ℕ) → NoSuch (short_mark p b bs)
    short_not bs = by_test NoSuch (eqb (sign_of (b ∷ []) marks) 0) (λ e. tt) (λ e. mark_other [])

    mark_not : (bs : List ℕ) → NoSuch (mark_at p b bs)
    mark_not [] = short_not []
    mark_not (c ∷ rest) = by_test NoSuch (eqb (sign_of (b ∷ c ∷ []) marks) 0) (λ e. short_not (c ∷ rest)) (λ e. mark_other (c ∷ []))

    word_not : (w : List ℕ) → sign_in (pick (eqb (sign_of (b ∷ w) reserved) 0) (name p (b ∷ w)) (sign p (sign_of (b ∷ w) reserved))) ≡ n → ⊥
    word_not w =
        by_test (λ (t : SheetToken). sign_in t ≡ n → ⊥) (eqb (sign_of (b ∷ w) reserved) 0) (λ e z. absurd (omega arith))
        (λ e z. h (spelled_so k n (b ∷ w) reserved in_words_lem some.0 z))

    first_not : (bs : List ℕ) → NoSuch (first_in_text p b bs)
    unfolding first_in_text
    first_not bs =
        by_test NoSuch (is_digit b) (λ e z. absurd (omega arith))
        (λ e. by_test NoSuch (is_letter b)
        (λ d. by_test NoSuch (leb (length (b ∷ run_of_kind in_word bs)) 32) (λ c. word_not (run_of_kind in_word bs)) (λ c. tt))
        (λ d. mark_not bs))

  scan_not : (p : ℕ) (go : List ℕ → List SheetToken) (f : FirstInText) → NoSuch f → sign_at (scan_on p go f) ≡ n → ⊥
  scan_not p go nothing h = λ z. absurd (omega arith)
  scan_not p go (begins t rest) h = h

  other_token : (text : List ℕ) (at p : ℕ) → PassedOver text at p → (get_or text p 0 ≡ k → ⊥) → sign_at (tokens_from text at) ≡ n → ⊥
  other_token text at p s h =
      rw s.all
      (split (ltb p (length text))
      (λ t.
      let u = s.begun (ltb-true p (length text) t) in
      rw (tokens_first text p u) (scan_not p _ (first_in_text p (get_or text p 0) (drop (suc p) text)) (first_not p (get_or text p 0) h (drop (suc p) text))))
      (λ f.
      rw (tokens_end text p (omega (arith, s.within, ltb-false p (length text) f))) (λ z. absurd (omega arith))))

module _ (text : List ℕ) (at p : ℕ) (s : PassedOver text at p) where
  pub not_by_byte : (get_or text p 0 ≡ 33 → ⊥) → sign_at (tokens_from text at) ≡ not_fn → ⊥
  unfolding begun_by marks reserved
  not_by_byte = other_token 33 not_fn (omega arith) refl refl text at p s

  pub if_by_byte : (get_or text p 0 ≡ 105 → ⊥) → sign_at (tokens_from text at) ≡ if_fn → ⊥
  unfolding begun_by marks reserved
  if_by_byte = other_token 105 if_fn (omega arith) refl refl text at p s

  opening_by_byte : (get_or text p 0 ≡ 40 → ⊥) → sign_at (tokens_from text at) ≡ opening → ⊥
  unfolding begun_by marks reserved
  opening_by_byte = other_token 40 opening (omega arith) refl refl text at p s

  pub bracket_by_byte : (get_or text p 0 ≡ 91 → ⊥) → sign_at (tokens_from text at) ≡ bracket → ⊥
  unfolding begun_by marks reserved
  bracket_by_byte = other_token 91 bracket (omega arith) refl refl text at p s

-- ---- from a place on

bracket_mark : (p : ℕ) (bs : List ℕ) → first_in_text p 40 bs ≡ begins (sign p opening) bs
unfolding first_in_text is_digit is_letter sign_of marks same
bracket_mark p [] = refl
bracket_mark p (c ∷ rest) = refl

module _ (text : List ℕ) (at p : ℕ) (s : PassedOver text at p) where
  pub bracket_opens : get_or text p 0 ≡ 40 → OpeningAt text at (p + 1)
  bracket_opens e =
      let l : p < length text = split (ltb p (length text)) (λ t. ltb-true p (length text) t)
      (λ f. let d = List·getD-eq-default text 0 (ltb-false p (length text) f) in absurd (omega arith)) in
      let q : tokens_from text at ≡ sign p opening ∷ tokens_from text (p + 1) = s.all
      ∙ tokens_begin text p (s.begun l) (sign p opening) (p + 1) (rw (e, add-one p) (bracket_mark p (drop (suc p) text))) in
      record {
        opens = λ z. (p, q);
        onward = λ z. (omega (arith, s.onward), omega arith);
        other = λ z. absurd (omega arith);
        some = rw q (omega arith);
      }

  pub bracket_none : (get_or text p 0 ≡ 40 → ⊥) → OpeningAt text at 0
  bracket_none h =
      record {
        opens = λ z. absurd (z refl);
        onward = λ z. absurd (z refl);
        other = λ z. opening_by_byte text at p s h;
        some = tokens_some text at (omega (arith, s.onward, s.within));
      }
