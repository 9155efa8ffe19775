-- A byte of a word begins a number, a name or a reserved word, none of which is an operator or `)`: the table of
-- reserved words has no such number.
use Rattle.lib_base.proofs.Prelude.{ℕ, suc, ◌≡◌, refl, true, false, Bool, List, [], ◌∷◌, length, get_or, drop, eqb, leb}
use Rattle.lib_base.proofs.Prelude.{eqb-true, eqb-false, arith}
use Rattle.lib_base.specs.Basics.{pick}
use Rattle.lib_base.proofs.Tools.{by_test, past, through}
use Rattle.lib_signature.specs.Signature.{level}
use Rattle.source_language.specs.Tokens.{SheetToken, name, sign, Spelling, spelled, reserved, same, sign_of, closing, is_digit, in_word}
use Rattle.source_language.specs.Scanner.{run_of_kind, FirstInText, nothing, begins, first_in_text, scan_on}
use Rattle.source_language.specs.Reader.{token_place, sign_in, place_at, sign_at}
use Rattle.source_coding.specs.Places.{tokens_from}
use Rattle.source_tokens.specs.Token.{TokenBegins}
use Rattle.source_tokens.proofs.Bytes.{word_letter}
use Rattle.source_tokens.proofs.Scanned.{tokens_first}

-- no two-sided operator, and no `)`
abbrev pub NoOperator : ℕ → Type 0
NoOperator c = (level c ≡ 0) × (c ≡ closing → ⊥)

unfoldable no_operators : List Spelling → Bool
no_operators [] = true
no_operators (spelled s n ∷ rows) = pick (eqb (level n) 0) (pick (eqb n closing) false (no_operators rows)) false

none_spelled : (w : List ℕ) (rows : List Spelling) → no_operators rows ≡ true → NoOperator (sign_of w rows)
unfolding no_operators sign_of level
none_spelled w [] h = (refl, λ z. absurd (omega arith))
none_spelled w (spelled s n ∷ rows) h =
    let a = through (eqb (level n) 0) (pick (eqb n closing) false (no_operators rows)) h in
    let b = past (eqb n closing) (no_operators rows) a.1 in
    by_test NoOperator (same w s) (λ e. (eqb-true (level n) 0 a.0, eqb-false n closing b.0)) (λ e. none_spelled w rows b.1)

word_none : (w : List ℕ) → NoOperator (sign_of w reserved)
unfolding no_operators reserved level
word_none w = none_spelled w reserved refl

-- a token at p that is none
abbrev TokenNone : ℕ → SheetToken → Type 0
TokenNone p t = NoOperator (sign_in t) × (token_place t ≡ p)

abbrev BeginsNone : ℕ → FirstInText → Type 0
BeginsNone p nothing = Unit {0}
BeginsNone p (begins t rest) = TokenNone p t

zero_none : NoOperator 0
unfolding level
zero_none = (refl, λ z. absurd (omega arith))

module _ (p b : ℕ) where
  word_token_law : (w : List ℕ) → TokenNone p (pick (eqb (sign_of (b ∷ w) reserved) 0) (name p (b ∷ w)) (sign p (sign_of (b ∷ w) reserved)))
  word_token_law w = by_test (TokenNone p) (eqb (sign_of (b ∷ w) reserved) 0) (λ e. (zero_none, refl)) (λ e. (word_none (b ∷ w), refl))

  first_none : (bs : List ℕ) → in_word b ≡ true → BeginsNone p (first_in_text p b bs)
  unfolding first_in_text
  first_none bs h =
      by_test (BeginsNone p) (is_digit b) (λ e. (zero_none, refl))
      (λ e. rw (word_letter b h e)
      (by_test (BeginsNone p) (leb (length (b ∷ run_of_kind in_word bs)) 32) (λ c. word_token_law (run_of_kind in_word bs)) (λ c. tt)))

scan_none : (p : ℕ) (go : List ℕ → List SheetToken) (f : FirstInText) → BeginsNone p f → NoOperator (sign_at (scan_on p go f)) × (place_at (scan_on p go f) ≡ p)
unfolding level
scan_none p go nothing h = ((refl, λ z. absurd (omega arith)), refl)
scan_none p go (begins t rest) h = h

pub word_no_operator : (text : List ℕ) (p : ℕ) → TokenBegins text p → in_word (get_or text p 0) ≡ true
    → NoOperator (sign_at (tokens_from text p)) × (place_at (tokens_from text p) ≡ p)
word_no_operator text p u e =
    rw (tokens_first text p u) (scan_none p _ (first_in_text p (get_or text p 0) (drop (suc p) text)) (first_none p (get_or text p 0) (drop (suc p) text) e))
