-- What the runs of the reading hand to each other, and what assemble answers by it.
use Rattle.std.specs.Prelude.{Option, None, Some, Result, Ok, Err, ℕ, ◌+◌, ◌*◌, ◌≤◌, ◌≡◌, List, ◌++◌, length, take, drop, ltb, eqb}
use Rattle.lib_base.specs.Basics.{pick, All}
use Rattle.spec_language.specs.Limits.{behaviour_limit, sheet_bytes}
use Rattle.text_formula.specs.Answer.{answered}
use Rattle.source_language.specs.Text.{Text, text}
use Rattle.source_language.specs.Faults.{long_sheet_fault, short_buffer_fault, OrFault, fault, fine}
use Rattle.source_language.specs.Meaning.{NameMeaning, meaning_of_name}
use Rattle.source_language.specs.Answer.{line_from, column_from}
use Rattle.source_coding.specs.Bounds.{name_limit, first_cells}
use Rattle.source_coding.specs.FaultWords.{number, fault_of}
use Rattle.source_coding.specs.declared.faults.Fault.{Fault}
use Rattle.source_assemble.specs.AssembleNumber.{assemble_number}

-- room for what a text declares, its names and the numbers of first cells, and for a sheet
abbrev pub RoomToRead : List ℕ → List ℕ → List ℕ → Type 0
RoomToRead declared starts out =
    (length declared ≡ name_limit) × (((length starts ≡ first_cells) × All (λ i. i ≤ behaviour_limit) starts) × (length out ≡ sheet_bytes))

-- line and column after a byte
abbrev pub line_after : ℕ → ℕ → ℕ
line_after l b = pick (eqb b 10) (l + 1) l

abbrev pub column_after : ℕ → ℕ → ℕ
column_after c b = pick (eqb b 10) 1 (c + 1)

-- line and column of a place in one number
unfoldable pub place_told : List ℕ → ℕ → ℕ
place_told bytes p = line_from 1 p bytes * 268435456 + column_from 1 p bytes

-- a fault in one number, by its kind, line and column
abbrev pub fault_numbered : List ℕ → Fault → ℕ
fault_numbered bytes f = number f.kind * 72057594037927936 + place_told bytes f.place

-- a fault in a text of so many bytes
pub record TellsFault (long : ℕ) (f : Fault) : Type 0 where
  pub a_place : f.place ≤ long
  pub low : f.place ≤ 65536

-- what was found, how many bytes or a fault in a text, is told as this answer with this buffer
abbrev pub ToldAs : List ℕ → Result ℕ Fault → List ℕ → ℕ × List ℕ → Type 0
ToldAs bytes (Ok n) buffer answer = (n ≤ 8192) × (answered (4294967296 + n) buffer ≡ answer)
ToldAs bytes (Err f) buffer answer = TellsFault (length bytes) f × (answered (fault_numbered bytes f) buffer ≡ answer)

-- names mean what the text declares them to
abbrev pub NamesResolved : List ℕ → (List ℕ → NameMeaning) → OrFault Text → Type 0
NamesResolved bytes find (fault k p) = ⊥
NamesResolved bytes find (fine (text ps es bs)) = (s : List ℕ) → find s ≡ meaning_of_name 0 ps bs s

-- the answer for a sheet whose n bytes stand at the start of `out`: "Then a sheet over 8,192 bytes; last a buffer that
-- is too short", at the end of the text
abbrev pub sheet_answer : List ℕ → ℕ → List ℕ → List ℕ → ℕ × List ℕ
sheet_answer bytes n out buffer =
    pick (ltb 8192 n) (answered (fault_numbered bytes (fault_of long_sheet_fault (length bytes))) buffer)
    (pick (ltb (length buffer) n) (answered (fault_numbered bytes (fault_of short_buffer_fault (length bytes))) buffer)
    (answered (4294967296 + n) (take n out ++ drop n buffer)))

-- what a reading found that had the right names is the answer: the end of the sheet's bytes, and a name's first fault
pub record ReadRight (bytes buffer out : List ℕ) (end : ℕ) (w : Option Fault) : Type 0 where
  pub tells : (f : Fault) → w ≡ Some f → TellsFault (length bytes) f
  pub at_fault : (f : Fault) → w ≡ Some f → answered (fault_numbered bytes f) buffer ≡ assemble_number bytes buffer
  pub sheet : w ≡ None → sheet_answer bytes end out buffer ≡ assemble_number bytes buffer
