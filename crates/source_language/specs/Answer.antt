-- What a text is assembled to, and what it leaves in the lent buffer: a sheet's bytes, or the first fault by kind, line
-- and column. docs/SHEETS.md "Faults".
use Rattle.std.specs.Prelude.{ℕ, zero, suc, ◌≤◌, ◌≡◌, List, [], ◌∷◌, length, eqb}
use Rattle.lib_base.specs.Basics.{pick}
use Rattle.spec_language.specs.Sheet.{Sheet}
use Rattle.spec_language.specs.Grammar.{encode}
use Rattle.source_language.specs.Text.{Text}
use Rattle.source_language.specs.Faults.{Kind, fine}
use Rattle.source_language.specs.Grammar.{TextSays}
use Rattle.source_language.specs.Limits.{TextFits}
use Rattle.source_language.specs.Meaning.{sheet_of}

-- "Lines and columns count from 1, columns in bytes": those of the byte with so many before it, from line l or column
-- c on
unfoldable pub line_from : ℕ → ℕ → List ℕ → ℕ
line_from l zero bs = l
line_from l (suc p) [] = l
line_from l (suc p) (b ∷ bs) = line_from (pick (eqb b 10) (suc l) l) p bs

unfoldable pub column_from : ℕ → ℕ → List ℕ → ℕ
column_from c zero bs = c
column_from c (suc p) [] = c
column_from c (suc p) (b ∷ bs) = column_from (pick (eqb b 10) 1 (suc c)) p bs

-- so many bytes are written, or the text is turned down
pub data TextOutcome : Type 0 where
  written : ℕ → TextOutcome
  turned_down : Kind → ℕ → ℕ → TextOutcome

-- ---- what is said of it

-- a text that means the sheet s: within the grammar, the limits and the length of a text, each name resolved
pub record TextMeans (bytes : List ℕ) (s : Sheet) : Type 0 where
  pub reading : Text
  pub long_enough : length bytes ≤ 65536
  pub says_so : TextSays bytes reading
  pub fits : TextFits reading
  pub resolved : sheet_of reading ≡ fine s

-- turned down at the byte with p before it
abbrev pub refused_at : Kind → ℕ → List ℕ → List ℕ → TextOutcome × List ℕ
refused_at k p bytes buffer = (turned_down k (line_from 1 p bytes) (column_from 1 p bytes), buffer)

-- an answer of n bytes: those of the sheet that the text means
pub record SheetWritten (bytes buffer : List ℕ) (n : ℕ) : Type 0 where
  pub sheet : Sheet
  pub meant : TextMeans bytes sheet
  pub length_is : n ≡ length (encode sheet)
  pub few_bytes : n ≤ 8192
  pub room : n ≤ length buffer
