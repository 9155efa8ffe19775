-- The number that a table of spellings gives: only those rows count that pass a test which the word passes.
use Rattle.lib_base.proofs.Prelude.{ℕ, ◌≡◌, refl, ◌∙◌, sym, ap, true, Bool, false≢true, List, [], ◌∷◌}
use Rattle.lib_base.proofs.Prelude.{length, eqb, ne_eqb, eqb-true, eqb-false, arith}
use Rattle.lib_base.specs.Basics.{pick}
use Rattle.lib_base.proofs.Tools.{by_test, split}
use Rattle.std.specs.Prelude.{Option, Some, None}
use Rattle.text_marks.specs.Marks.{Lexeme, lexeme, spelled_alike, number_of, formula_marks, formula_mark, mark_found}

pub bytes_are : (l m : List ℕ) → spelled_alike l m ≡ true → l ≡ m
unfolding spelled_alike
bytes_are [] [] = λ h. refl
bytes_are [] (b ∷ m) = λ h. absurd (false≢true h)
bytes_are (a ∷ l) [] = λ h. absurd (false≢true h)
bytes_are (a ∷ l) (b ∷ m) =
    by_test (λ x. x ≡ true → a ∷ l ≡ b ∷ m) (eqb a b)
    (λ e h. let p : a ≡ b = eqb-true a b e in let q : l ≡ m = bytes_are l m h in rw (p, q))
    (λ e h. absurd (false≢true h))

-- ---- rows that are kept

unfoldable pub kept_rows : (List ℕ → Bool) → List Lexeme → List Lexeme
kept_rows keep [] = []
kept_rows keep (lexeme s n ∷ rows) = pick (keep s) (lexeme s n ∷ kept_rows keep rows) (kept_rows keep rows)

pub kept_numbers : (keep : List ℕ → Bool) (w : List ℕ) → keep w ≡ true → (rows : List Lexeme) → number_of w rows ≡ number_of w (kept_rows keep rows)
unfolding kept_rows number_of
kept_numbers keep w h [] = refl
kept_numbers keep w h (lexeme s n ∷ rows) =
    split (keep s) (λ e. rw e (ap (λ (m : ℕ). pick (spelled_alike w s) n m) (kept_numbers keep w h rows)))
    (λ e.
    rw e
    (split (spelled_alike w s) (λ t. let q : w ≡ s = bytes_are w s t in absurd (false≢true (sym e ∙ ap keep (sym q) ∙ h)))
    (λ f. rw f (kept_numbers keep w h rows))))

-- no row is spelled with that first byte
abbrev pub NoneBegins : ℕ → List Lexeme → Type 0
NoneBegins b [] = Unit {0}
NoneBegins b (lexeme [] n ∷ rows) = NoneBegins b rows
NoneBegins b (lexeme (c ∷ s) n ∷ rows) = (b ≡ c → ⊥) × NoneBegins b rows

pub none_begins : (b : ℕ) (w : List ℕ) (rows : List Lexeme) → NoneBegins b rows → number_of (b ∷ w) rows ≡ 0
unfolding number_of spelled_alike
none_begins b w [] h = refl
none_begins b w (lexeme [] n ∷ rows) h = none_begins b w rows h
none_begins b w (lexeme (c ∷ s) n ∷ rows) h = rw (ne_eqb b c h.0) (none_begins b w rows h.1)

-- ---- marks of two bytes

abbrev of_two_bytes : List ℕ → Bool
of_two_bytes s = eqb (length s) 2

pub long_none : (b c : ℕ) → NoneBegins b (kept_rows of_two_bytes formula_marks) → formula_mark (b ∷ c ∷ []) ≡ 0
long_none b c h = kept_numbers of_two_bytes (b ∷ c ∷ []) refl formula_marks ∙ none_begins b (c ∷ []) (kept_rows of_two_bytes formula_marks) h

-- ---- marks of one byte

abbrev of_one_byte : List ℕ → Bool
of_one_byte s = eqb (length s) 1

pub short_none : (b : ℕ) → NoneBegins b (kept_rows of_one_byte formula_marks) → formula_mark (b ∷ []) ≡ 0
short_none b h = kept_numbers of_one_byte (b ∷ []) refl formula_marks ∙ none_begins b [] (kept_rows of_one_byte formula_marks) h

-- ---- a mark that is found

pub mark_some : (w : List ℕ) {r : Option ℕ} {m : ℕ} → r ≡ mark_found w → r ≡ Some m → (formula_mark w ≡ m) × (m ≡ 0 → ⊥)
mark_some w {r} {m} p q =
    let found : mark_found w ≡ Some m = sym p ∙ q in
    split (eqb (formula_mark w) 0) (λ e. let f = rw e at found in let z : ◌≡◌ {A = ℕ} 0 1 = cc in absurd (omega arith))
    (λ e.
    let f = rw e at found in
    let same : formula_mark w ≡ m = cc in
    (same, λ z. eqb-false (formula_mark w) 0 e (same ∙ z)))

pub mark_none : (w : List ℕ) {r : Option ℕ} → r ≡ mark_found w → r ≡ None → formula_mark w ≡ 0
mark_none w {r} p q =
    let found : mark_found w ≡ None = sym p ∙ q in
    split (eqb (formula_mark w) 0) (λ e. eqb-true (formula_mark w) 0 e)
    (λ e. let f = rw e at found in let z : ◌≡◌ {A = ℕ} 0 1 = cc in absurd (omega arith))
