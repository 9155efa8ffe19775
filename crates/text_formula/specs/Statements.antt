-- What is said of a formula's answer: 02, M-105.
use Rattle.std.specs.Prelude.{ℕ, ◌<◌, ◌≤◌, ◌≡◌, List, ◌++◌, length, drop}
use Rattle.spec_language.specs.Syntax.{Expr}
use Rattle.spec_language.specs.Sheet.{fill_term, as_sent}
use Rattle.spec_language.specs.Grammar.{TermFits}
use Rattle.spec_language.specs.Reading.{got, expr_at}
use Rattle.spec_language.specs.Answers.{told}
use Rattle.text_formula.specs.Grammar.{Formula}
use Rattle.text_formula.specs.Answer.{formula_field}

-- a refusal changes no byte; no answer changes the buffer's length
pub record BufferKept (buffer : List ℕ) (a : ℕ × List ℕ) : Type 0 where
  pub unchanged : a.0 < 4294967296 → a.1 ≡ buffer
  pub long : length a.1 ≡ length buffer

pub record FieldWritten (text buffer : List ℕ) (n : ℕ) (after : List ℕ) : Type 0 where
  pub expression : Expr
  pub reading : Formula text expression
  pub length_is : n ≡ length (formula_field expression)
  pub fits : n ≤ length buffer
  pub bytes : after ≡ formula_field expression ++ drop n buffer
  pub nests : TermFits 16 (as_sent expression)
  pub read_back : expr_at 16 after ≡ got (as_sent expression) (drop n buffer)
  pub means : (v : ℕ → ℕ) → fill_term v (as_sent expression) ≡ expression

-- of an answer beyond the refusals
abbrev pub Fields : List ℕ → List ℕ → ℕ × List ℕ → Type 0
Fields text buffer a = (n : ℕ) → a.0 ≡ told n → FieldWritten text buffer n a.1
