-- "each text has one reading, and all texts outside it are turned down": the reader gives an expression exactly where
-- the grammar has one, and the same one. From the two halves for tokens (`Scans`) and for expressions (`Parses`).
use Rattle.lib_base.proofs.Prelude.{ℕ, ◌≡◌, refl, ◌∙◌, sym, Option, some, none, List, [], ◌∷◌, append-nil, length}
use Rattle.lib_base.proofs.Prelude.{arith}
use Rattle.spec_language.specs.Syntax.{Expr}
use Rattle.text_formula.specs.Tokens.{Token, Tokens}
use Rattle.text_formula.specs.Grammar.{Derives, Formula, formula}
use Rattle.text_formula.specs.Reader.{Parsed, unparsed, parsed, read_at, wholly, read_tokens, tokens_of, read_formula}
use Rattle.text_formula.proofs.Scans.{Made, scans_all, scans_only}
use Rattle.text_formula.proofs.Parses.{Sound, reads_all, reads_only}

-- what is read from a text's tokens, and from the text
abbrev pub ReadOf : List ℕ → Option Expr → Type 0
ReadOf text none = Unit {0}
ReadOf text (some e) = Formula text e

wholly_says : (text : List ℕ) (ts : List Token) → Tokens text ts → (g : Parsed) → Sound 6 ts g → ReadOf text (wholly g)
wholly_says text ts t unparsed h = tt
wholly_says text ts t (parsed e []) h = let q : ts ≡ h.taken = h.joined ∙ append-nil h.taken in
    let d : Derives 6 ts e = rw q h.derived in formula t d
wholly_says text ts t (parsed e (u ∷ us)) h = tt

tokens_say : (text : List ℕ) (o : Option (List Token)) → Made text o → ReadOf text (read_tokens o)
tokens_say text none h = tt
tokens_say text (some ts) h = wholly_says text ts h (read_at 6 (length ts) ts) (reads_only 6 (length ts) ts)

pub reading_says : (text : List ℕ) → ReadOf text (read_formula text)
unfolding read_formula
reading_says text = tokens_say text (tokens_of (length text) text) (scans_only (length text) text)

-- the reader gives the grammar's expression
pub reading_is : {text : List ℕ} {e : Expr} → Formula text e → read_formula text ≡ some e
unfolding read_formula
reading_is {text} (formula t d) = rw (scans_all t (length text) (omega arith), reads_all d)

-- and only that
pub reading_only : (text : List ℕ) (e : Expr) → read_formula text ≡ some e → Formula text e
reading_only text e h = rw h at (reading_says text)

-- each text has one reading
pub one_reading : {text : List ℕ} {d e : Expr} → Formula text d → Formula text e → d ≡ e
one_reading {text} {d} {e} p q = let h : some d ≡ some e = sym (reading_is p) ∙ reading_is q in cc

-- all texts outside the grammar are turned down, and no others
by_reading : (text : List ℕ) (o : Option Expr) → read_formula text ≡ o → ((e : Expr) → Formula text e → ⊥) → read_formula text ≡ none
by_reading text none h f = h
by_reading text (some e) h f = absurd (f e (reading_only text e h))

pub outside_none : (text : List ℕ) → ((e : Expr) → Formula text e → ⊥) → read_formula text ≡ none
outside_none text f = by_reading text (read_formula text) refl f

pub none_outside : (text : List ℕ) → read_formula text ≡ none → (e : Expr) → Formula text e → ⊥
none_outside text h e f = let c : ◌≡◌ {A = ℕ} 0 1 = cc (reading_is f) in omega arith
