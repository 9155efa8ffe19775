-- What is said of compile: the order of its refusals, and rows written out (02, M-110).
use Rattle.std.specs.Prelude.{ℕ, ◌+◌, ◌≤◌, ◌<◌, true, ◌≡◌, ◌⊎◌, List, [], ◌∷◌, ◌++◌, length}
use Rattle.std.proofs.Math.Option.{Option}
use Rattle.lib_base.specs.Basics.{All}
use Rattle.spec_language.specs.Sheet.{Sheet, uses, Clause, Item, formula, state, row, Entry, cell_count, rows_out}
use Rattle.spec_language.specs.Dependence.{NoCycle}
use Rattle.spec_language.specs.Grammar.{ClausesFit, encode}
use Rattle.spec_language.specs.Reading.{Got, bad, got, entry, sheet, read_sheet}
use Rattle.spec_language.specs.Accepted.{Known}
use Rattle.spec_language.specs.Code.{all_instructions}
use Rattle.back_compile.specs.Verdict.{compile_on}
use Rattle.back_compile.specs.Compiled.{program_of}

-- a parameter is used only if 32 bytes are lent
abbrev pub Given : List ℕ → Sheet → Type 0
Given ps s = uses s ≡ true → 32 ≤ length ps

-- ---- the order of the refusals

-- what a call needs, in this order: r is the number of the first condition that does not hold; where all hold, r is as
-- P says
abbrev pub FirstUnmet : List (Type 0 × ℕ) → (ℕ → Type 0) → ℕ → Type 0
FirstUnmet [] P r = P r
FirstUnmet (c ∷ cs) P r = ((c.0 → ⊥) × (r ≡ c.1)) ⊎ (c.0 × FirstUnmet cs P r)

-- what is answered once the bytes are read: their first fault, or by what the program that the sheet means needs
abbrev pub AfterReading : Got Sheet → List ℕ → ℕ → Type 0
AfterReading (bad k) ps r = r ≡ k
AfterReading (got x rest) ps r =
    FirstUnmet
    ((Known (program_of ps x), 11)
    ∷ (Given ps x, 20)
    ∷ (NoCycle (program_of ps x), 12)
    ∷ (all_instructions (program_of ps x) ≤ 4096, 13) ∷ [])
    (λ r. r ≡ 0) r

-- ---- rows. M-110: "It means the sheet in which each cell is written out as an active, only that 3 counts the bytes as
-- sent", and "past the first cell, 7 is checked after the count"

-- these entries of the sheet are read without a fault
abbrev pub ReadSoFar : Sheet → List Entry → Type 0
ReadSoFar x before = read_sheet (encode (sheet x.signals before)) ≡ got (sheet x.signals before) []

-- a row of c cells with the handlers hs, n events being declared and i behaviours standing before it. Where its first
-- cell is past the 64th, both sheets answer 7, whatever its count, if there is a cell to be written out. Else it has "a
-- one-byte cell count of 2 to 16 (else 8)"; and where its last cell is past the 64th, handlers within their limits,
-- since 7 is checked after the count and so before them
abbrev pub RowFits : ℕ → ℕ → ℕ → List Clause → Type 0
RowFits n i c hs = (1 ≤ c) × (i < 64 → (2 ≤ c) × (c ≤ 16) × (64 < i + c → ClausesFit n hs))

abbrev pub CountFits : Item → Type 0
CountFits (formula x) = Unit {0}
CountFits (state s hs) = Unit {0}
CountFits (row c s hs) = (2 ≤ c) × (c ≤ 16)

-- each row that is met before a fault
abbrev pub RowsFit : Sheet → Type 0
RowsFit x =
    (before after : List Entry) (c s : ℕ) (hs : List Clause) (m : Option ℕ) → x.entries ≡ before ++ (entry (row c s hs) m ∷ after) → ReadSoFar x before
    → RowFits (length x.signals) (cell_count before) c hs

-- the sheet x, and the sheet in which each cell of its rows is written out
pub record AsRows (x : Sheet) : Type 0 where
  -- compile's answer, a refusal too, and the table's bytes are the same for both, where neither has over 8,192 bytes:
  -- whatever stands in x but rows, whatever is named, crowded, doubled, too deep, in a circle or overlong, and whatever
  -- is lent
  pub same : RowsFit x → length (encode x) ≤ 8192 → length (encode (rows_out x)) ≤ 8192
      → (ps t : List ℕ) → compile_on (encode x) ps t ≡ compile_on (encode (rows_out x)) ps t
  -- 3 counts the bytes as sent: where they are not over 8,192 the sheet written out is read and judged, however many
  -- bytes it would have
  pub sent : RowsFit x → length (encode x) ≤ 8192 → (ps t : List ℕ) → 34816 ≤ length t
      → AfterReading (read_sheet (encode (rows_out x))) ps (compile_on (encode x) ps t).0
  -- each row is as above where they have 2 to 16 cells and all behaviours are 64 at most
  pub fits : All (λ (b : Entry). CountFits b.item) x.entries → cell_count x.entries ≤ 64 → RowsFit x
  -- its program, so its circles, rights, instruction counts and commits, is that of the sheet written out
  pub program : (ps : List ℕ) → program_of ps x ≡ program_of ps (rows_out x)
