-- assemble's answer as a number. docs/SHEETS.md "Faults".
use Rattle.std.specs.Prelude.{ℕ, List}
use Rattle.text_formula.specs.Answer.{answered}
use Rattle.source_language.specs.Assembled.{assemble_on}
use Rattle.source_coding.specs.Faults.{outcome_number}

-- what the call answers, and the buffer
unfoldable pub assemble_number : List ℕ → List ℕ → ℕ × List ℕ
assemble_number bytes buffer = answered (outcome_number (assemble_on bytes buffer).0) (assemble_on bytes buffer).1
