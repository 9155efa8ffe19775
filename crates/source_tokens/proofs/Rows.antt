-- The sign that a table of spellings gives, by the laws of the table that formulas share: only those rows count that
-- pass a test which the word passes.
use Rattle.lib_base.proofs.Prelude.{ℕ, ◌≤◌, ◌<◌, ◌+◌, ◌≡◌, refl, ◌∙◌, sym, ap, true, false, Bool, false≢true, ◌&&◌, not, List, [], ◌∷◌}
use Rattle.lib_base.proofs.Prelude.{length, get_or, take, drop, get_or-drop, get_or-take, eqb, leb, ne_eqb, eq-eqb, leb-true}
use Rattle.lib_base.proofs.Prelude.{eqb-true, eqb-false, arith}
use Rattle.std.specs.Prelude.{Option, Some, None}
use Rattle.lib_base.specs.Basics.{pick}
use Rattle.lib_base.proofs.Tools.{by_test, split, through}
use Rattle.source_language.specs.Tokens.{Spelling, spelled, row_word, marks, reserved, same, sign_of}
use Rattle.source_language.proofs.Scans.{same_is}
use Rattle.text_marks.specs.Marks.{Lexeme, lexeme, spelled_alike, number_of, formula_marks, formula_mark}
use Rattle.text_marks.proofs.Rows.{kept_rows, kept_numbers, NoneBegins, none_begins}

-- ---- as rows of the shared table

unfoldable pub lexemes_of : List Spelling → List Lexeme
lexemes_of [] = []
lexemes_of (spelled s n ∷ rows) = lexeme s n ∷ lexemes_of rows

same_bytes : (l m : List ℕ) → same l m ≡ spelled_alike l m
unfolding same spelled_alike
same_bytes [] [] = refl
same_bytes [] (b ∷ m) = refl
same_bytes (a ∷ l) [] = refl
same_bytes (a ∷ l) (b ∷ m) = rw (same_bytes l m)

sign_number : (w : List ℕ) (rows : List Spelling) → sign_of w rows ≡ number_of w (lexemes_of rows)
unfolding sign_of number_of lexemes_of
sign_number w [] = refl
sign_number w (spelled s n ∷ rows) = rw (same_bytes w s, sign_number w rows)

-- ---- marks: those of two bytes are all a formula's, those of one byte but for four

two : List ℕ → Bool
two s = eqb (length s) 2

pub long_sign : (b c : ℕ) → formula_mark (b ∷ c ∷ []) ≡ sign_of (b ∷ c ∷ []) marks
unfolding two kept_rows formula_marks marks lexemes_of
long_sign b c =
    kept_numbers two (b ∷ c ∷ []) refl formula_marks
    ∙ sym (sign_number (b ∷ c ∷ []) marks ∙ kept_numbers two (b ∷ c ∷ []) refl (lexemes_of marks))

shared : List ℕ → Bool
shared s = not (eqb (get_or s 0 0) 58) && (not (eqb (get_or s 0 0) 61) && (not (eqb (get_or s 0 0) 91) && (not (eqb (get_or s 0 0) 93) && eqb (length s) 1)))

pub short_shared : (b : ℕ) → (b ≡ 58 → ⊥) → (b ≡ 61 → ⊥) → (b ≡ 91 → ⊥) → (b ≡ 93 → ⊥) → formula_mark (b ∷ []) ≡ sign_of (b ∷ []) marks
unfolding shared kept_rows formula_marks marks lexemes_of
short_shared b h₁ h₂ h₃ h₄ =
    let k : shared (b ∷ []) ≡ true = rw (ne_eqb b 58 h₁, ne_eqb b 61 h₂, ne_eqb b 91 h₃, ne_eqb b 93 h₄) in
    kept_numbers shared (b ∷ []) k formula_marks ∙ sym (sign_number (b ∷ []) marks ∙ kept_numbers shared (b ∷ []) k (lexemes_of marks))

-- past the text's end there is none
second : ℕ → List ℕ → Bool
second c s = eqb (get_or s 1 1) c

pub zero_none : (b : ℕ) → sign_of (b ∷ 0 ∷ []) marks ≡ 0
unfolding second kept_rows marks lexemes_of number_of
zero_none b = sign_number (b ∷ 0 ∷ []) marks ∙ kept_numbers (second 0) (b ∷ 0 ∷ []) refl (lexemes_of marks)

-- ---- reserved words, by their first bytes

abbrev pub begins_with : ℕ → List ℕ → Bool
begins_with b s = eqb (get_or s 0 0) b

reserved_none : (w : List ℕ) (b : ℕ) → get_or w 0 0 ≡ b → NoneBegins b (lexemes_of reserved) → number_of w (lexemes_of reserved) ≡ 0
unfolding reserved lexemes_of number_of spelled_alike
reserved_none [] b e h = refl
reserved_none (a ∷ w) b e h = rw e (none_begins b w (lexemes_of reserved) h)

-- the first of n bytes from a place on
first_of : (text : List ℕ) (at n : ℕ) → 0 < n → get_or (take n (drop at text)) 0 0 ≡ get_or text at 0
first_of text at n h = let q : at + 0 ≡ at = omega arith in get_or-take n (drop at text) 0 0 h ∙ get_or-drop at text 0 0 ∙ rw q

unfoldable pub kept_words : (List ℕ → Bool) → List Spelling → List Spelling
kept_words keep [] = []
kept_words keep (spelled s n ∷ rows) = pick (keep s) (spelled s n ∷ kept_words keep rows) (kept_words keep rows)

kept_signs : (keep : List ℕ → Bool) (w : List ℕ) → keep w ≡ true → (rows : List Spelling) → sign_of w rows ≡ sign_of w (kept_words keep rows)
unfolding kept_words sign_of
kept_signs keep w h [] = refl
kept_signs keep w h (spelled s n ∷ rows) =
    split (keep s) (λ e. rw e (ap (λ (m : ℕ). pick (same w s) n m) (kept_signs keep w h rows)))
    (λ e. rw e (split (same w s) (λ t. let q : w ≡ s = same_is w s t in absurd (false≢true (sym e ∙ ap keep (sym q) ∙ h))) (λ f. rw f (kept_signs keep w h rows))))

module _ (text : List ℕ) (at n b : ℕ) (h : 0 < n) (e : get_or text at 0 ≡ b) where
  pub first_rows : (r : ℕ) → r ≡ sign_of (take n (drop at text)) (kept_words (begins_with b) reserved) → r ≡ sign_of (take n (drop at text)) reserved
  first_rows r q =
      let k : begins_with b (take n (drop at text)) ≡ true = eq-eqb (get_or (take n (drop at text)) 0 0) b (first_of text at n h ∙ e) in
      q ∙ sym (kept_signs (begins_with b) (take n (drop at text)) k reserved)

  pub first_none : NoneBegins b (lexemes_of reserved) → 0 ≡ sign_of (take n (drop at text)) reserved
  first_none k = sym (sign_number (take n (drop at text)) reserved ∙ reserved_none (take n (drop at text)) b (first_of text at n h ∙ e) k)

-- ---- `row` is the last sign that has a spelling

unfoldable all_below : ℕ → List Spelling → Bool
all_below top [] = true
all_below top (spelled s n ∷ rows) = pick (leb n top) (all_below top rows) false

sign_below : (top : ℕ) (w : List ℕ) (rows : List Spelling) → all_below top rows ≡ true → sign_of w rows ≤ top
unfolding all_below sign_of
sign_below top w [] h = omega arith
sign_below top w (spelled s n ∷ rows) h =
    let r = through (leb n top) (all_below top rows) h in
    by_test (λ x. x ≤ top) (same w s) (λ e. leb-true n top r.0) (λ e. sign_below top w rows r.1)

pub mark_below : (w : List ℕ) → sign_of w marks ≤ row_word
unfolding marks all_below
mark_below w = sign_below row_word w marks refl

pub word_below : (w : List ℕ) → sign_of w reserved ≤ row_word
unfolding reserved all_below
word_below w = sign_below row_word w reserved refl

-- ---- a sign's number, where there is one

pub number_some : (x : ℕ) {r : Option ℕ} {m : ℕ} → r ≡ pick (eqb x 0) None (Some x) → r ≡ Some m → (m ≡ x) × (m ≡ 0 → ⊥)
number_some x {r} {m} p q =
    let found : pick (eqb x 0) None (Some x) ≡ Some m = sym p ∙ q in
    split (eqb x 0) (λ e. let f = rw e at found in let z : ◌≡◌ {A = ℕ} 0 1 = cc in absurd (omega arith))
    (λ e. let f = rw e at found in let same : m ≡ x = cc in (same, λ z. eqb-false x 0 e (sym same ∙ z)))

pub number_none : (x : ℕ) {r : Option ℕ} → r ≡ pick (eqb x 0) None (Some x) → r ≡ None → 0 ≡ x
number_none x {r} p q =
    let found : pick (eqb x 0) None (Some x) ≡ None = sym p ∙ q in
    split (eqb x 0) (λ e. sym (eqb-true x 0 e)) (λ e. let f = rw e at found in let z : ◌≡◌ {A = ℕ} 0 1 = cc in absurd (omega arith))
