-- What `describe` answers, and what it leaves in the lent buffer: docs/SHEETS.md "Back to text".
use Rattle.std.specs.Prelude.{ℕ, ◌+◌, ◌≤◌, ◌≡◌, List, ◌++◌, length, drop, replicate, ltb, eqb, Option, Some, None}
use Rattle.lib_base.specs.Basics.{pick}
use Rattle.spec_language.specs.Sheet.{Sheet}
use Rattle.spec_language.specs.Reading.{Got, bad, got, read_sheet}
use Rattle.text_formula.specs.Answer.{answered}
use Rattle.source_language.specs.Tokens.{SheetToken}
use Rattle.source_pen.specs.Written.{written_after}
use Rattle.source_language.specs.Faults.{short_buffer_fault}
use Rattle.source_coding.specs.Faults.{fault_number}
use Rattle.source_rendering.specs.Describe.{described}
use Rattle.back_compile.specs.Number.{number_on}

-- a text "at the start of a lent buffer, whose other bytes stay", and 2 ^ 32 with its length; or the buffer is too
-- short
abbrev pub text_delivered : List ℕ → List ℕ → ℕ × List ℕ
text_delivered text buffer =
    pick (ltb (length buffer) (length text)) (answered (fault_number short_buffer_fault) buffer)
    (answered (4294967296 + length text) (text ++ drop (length text) buffer))

-- the same of the text's length, or of none where the buffer is too short
abbrev pub text_answer : Option ℕ → ℕ
text_answer (Some n) = 4294967296 + n
text_answer None = fault_number short_buffer_fault

abbrev pub read_described : Got Sheet → List ℕ → ℕ × List ℕ
read_described (bad n) buffer = answered n buffer
read_described (got s rest) buffer = text_delivered (described s) buffer

-- from buffer o to buffer p, of n bytes in all, the text of these tokens was written at the start where it has no more
-- than 65,536 bytes, as that of every accepted sheet; where the buffer is too short, it was counted only
pub record TextPut (o p : List ℕ) (n : ℕ) (ts : List SheetToken) : Type 0 where
  pub counted : length (written_after 0 ts) ≤ 65536 → n ≡ length (written_after 0 ts)
  pub whole : length (written_after 0 ts) ≤ 65536 → n ≤ length o → p ≡ written_after 0 ts ++ drop n o

-- compile's number for the sheet, parameters lent, where that is not 0; else the text of the sheet that is read
unfoldable pub describe_on : List ℕ → List ℕ → ℕ × List ℕ
describe_on sheet buffer =
    pick (eqb (number_on sheet (replicate 32 0)) 0) (read_described (read_sheet sheet) buffer)
    (answered (number_on sheet (replicate 32 0)) buffer)
