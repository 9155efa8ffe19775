-- Demand 2's second sentence: "With a table of 01's size, a sheet is accepted exactly if it meets 01's grammar and
-- limits and has no circle, under an event or under none." 02, M-103: and a parameter only where 32 bytes are lent. Its
-- first sentence is `OneList.one_event_law` (crate refine_lists, Lists.antt).
use Rattle.std.specs.Prelude.{ℕ, ◌≤◌, ◌<◌, ◌≡◌, List, [], length}
use Rattle.lib_base.specs.Basics.{All}
use Rattle.lib_word.specs.Word.{get}
use Rattle.spec_language.specs.Sheet.{Sheet}
use Rattle.spec_language.specs.Reading.{got, read_sheet}
use Rattle.spec_language.specs.Grammar.{encode, SheetFits}
use Rattle.spec_language.specs.Accepted.{SheetAccepted}
use Rattle.format_image.specs.Table.{table_of}
use Rattle.back_compile.specs.Verdict.{compile_on}
use Rattle.back_compile.specs.Compiled.{compiled, program_of}

-- bytes are below 256
abbrev pub AreBytes : List ℕ → Type 0
AreBytes = All (λ b. b < 256)

pub record AcceptedExactly : Type 0 where
  pub accepted : (s ps t : List ℕ) → AreBytes s → 34816 ≤ length t → (compile_on s ps t).0 ≡ 0
      → (x : Sheet) × (encode x ≡ s) × SheetAccepted (get ps) (length ps) x
  pub exactly : (s ps t : List ℕ) → AreBytes s → 34816 ≤ length t → (x : Sheet) → encode x ≡ s → SheetAccepted (get ps) (length ps) x
      → compile_on s ps t ≡ compiled 0 (table_of (program_of ps x) t)
  -- what is read: a sheet within the grammar from its bytes, and no other; so compile's order (`Demand1`) says of
  -- sheets what 11, 20, 12 and 13 stand for
  pub reads : (x : Sheet) → SheetFits x → read_sheet (encode x) ≡ got x []
  pub reads_only : (s : List ℕ) → AreBytes s → length s ≤ 8192 → (x : Sheet) (rest : List ℕ) → read_sheet s ≡ got x rest → (encode x ≡ s) × SheetFits x
  -- the sheet is determined by its bytes
  pub one_sheet : (x y : Sheet) → SheetFits x → SheetFits y → encode x ≡ encode y → x ≡ y
