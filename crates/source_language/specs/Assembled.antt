-- What a text is assembled to, and what it leaves in the lent buffer. docs/SHEETS.md "Faults".
use Rattle.std.specs.Prelude.{ℕ, List, ◌++◌, length, drop, ltb}
use Rattle.lib_base.specs.Basics.{pick}
use Rattle.spec_language.specs.Sheet.{Sheet}
use Rattle.spec_language.specs.Grammar.{encode}
use Rattle.source_language.specs.Faults.{long_text_fault, long_sheet_fault, short_buffer_fault, OrFault, fault, fine, and_then}
use Rattle.source_language.specs.Meaning.{sheet_of}
use Rattle.source_language.specs.Reader.{read_text}
use Rattle.source_language.specs.Answer.{line_from, column_from, TextOutcome, written, turned_down}

-- "Then a sheet over 8,192 bytes; last a buffer that is too short": at the end of the text
abbrev pub length_judged : ℕ → ℕ → Sheet → OrFault (List ℕ)
length_judged long room s =
    pick (ltb 8192 (length (encode s))) (fault long_sheet_fault long)
    (pick (ltb room (length (encode s))) (fault short_buffer_fault long)
    (fine (encode s)))

-- the bytes of the sheet that a text means, where the buffer has room for so many. "A text has at most 65,536 bytes; a
-- longer one is turned down before anything else": at the first byte that is too many
unfoldable pub assembled : List ℕ → ℕ → OrFault (List ℕ)
assembled bytes room =
    pick (ltb 65536 (length bytes)) (fault long_text_fault 65536)
    (and_then (read_text bytes) (λ x. and_then (sheet_of x) (length_judged (length bytes) room)))

-- "at the start of a lent buffer, whose other bytes stay"; "or a refusal .., nothing changed"
abbrev pub sheet_delivered : List ℕ → List ℕ → OrFault (List ℕ) → TextOutcome × List ℕ
sheet_delivered bytes buffer (fault k p) = (turned_down k (line_from 1 p bytes) (column_from 1 p bytes), buffer)
sheet_delivered bytes buffer (fine s) = (written (length s), s ++ drop (length s) buffer)

unfoldable pub assemble_on : List ℕ → List ℕ → TextOutcome × List ℕ
assemble_on bytes buffer = sheet_delivered bytes buffer (assembled bytes (length buffer))
