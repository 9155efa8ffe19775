-- What a text answers, and what it leaves in the lent buffer. 02, M-105.
use Rattle.std.specs.Prelude.{ℕ, List, length, ltb}
use Rattle.std.proofs.Math.Option.{Option, none, some}
use Rattle.lib_base.specs.Basics.{pick}
use Rattle.spec_language.specs.Refusals.{no_formula}
use Rattle.spec_language.specs.Syntax.{Expr}
use Rattle.text_formula.specs.Reader.{read_formula}
use Rattle.text_formula.specs.Answer.{answered, field_answer}

abbrev pub answer_to : Option Expr → List ℕ → ℕ × List ℕ
answer_to none buffer = answered no_formula buffer
answer_to (some e) buffer = field_answer e buffer

-- "A formula of at most 1,024 bytes becomes one expression field"
unfoldable pub formula_on : List ℕ → List ℕ → ℕ × List ℕ
formula_on text buffer = pick (ltb 1024 (length text)) (answered no_formula buffer) (answer_to (read_formula text) buffer)
