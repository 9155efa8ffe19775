-- 02, M-106, "A rest day": what the exported calls do with a sheet of no bytes.
use Rattle.std.specs.Prelude.{ℕ, ◌≤◌, ◌<◌, ◌≡◌, ◌≢◌, List, [], length}
use Rattle.lib_word.specs.Word.{get}
use Rattle.spec_language.specs.Syntax.{Program}
use Rattle.spec_language.specs.Sheet.{Sheet}
use Rattle.spec_language.specs.Grammar.{encode}
use Rattle.spec_language.specs.Accepted.{SheetAccepted}
use Rattle.spec_language.specs.Reading.{sheet}
use Rattle.spec_model.specs.Model.{Call, begun}
use Rattle.format_image.specs.Table.{table_of}
use Rattle.back_compile.specs.Verdict.{compile_on}
use Rattle.back_compile.specs.Compiled.{program_of}
use Rattle.run_start.specs.Start.{start_on}
use Rattle.run_arrive.specs.Arrivals.{arrive_on}
use Rattle.run_board.specs.Board.{board_on}
use Rattle.run_step.specs.Machine.{step_on}
use Rattle.refine_calls.specs.Refinement.{round_after, bytes}

-- "a sheet with no events and no behaviours"
abbrev pub empty_sheet : Sheet
empty_sheet = sheet [] []

-- the program that it means, whatever its parameters are
abbrev pub empty_program : Program
empty_program = record { priorities = []; senders = []; behaviours = []; viewers = [] }

-- "its round idle, every arrival refused by 15 and every board reading by 18": after the calls cs on the table t and
-- the round l, of each of the eight players (02, M-107: 24 for others)
pub record RestDayRound (t l : List ℕ) (cs : List Call) : Type 0 where
  pub idle : (step_on t (round_after t cs l)).0 ≡ 0
  pub arrivals : (e who : ℕ) → who < 8 → (arrive_on t (round_after t cs l) e who).0 ≡ 15
  pub readings : (i who : ℕ) → who < 8 → board_on t (round_after t cs l) i who ≡ 18

-- "On rest days the sheet store sends a sheet of no bytes. It shall mean a sheet with no events and no behaviours:
-- accepted", in any table bytes t₀ and round bytes l₀ of 01's lengths
pub record RestDay : Type 0 where
  -- no bytes are the encoding of that sheet, which meets 01's grammar and limits and means that program, whatever is
  -- lent for parameters
  pub bytes : encode empty_sheet ≡ []
  pub within : (ps : List ℕ) → SheetAccepted (get ps) (length ps) empty_sheet
  pub means : (ps : List ℕ) → program_of ps empty_sheet ≡ empty_program
  -- compile takes the sheet, and leaves that program's table
  pub accepted : (ps t₀ : List ℕ) → 34816 ≤ length t₀ → (compile_on [] ps t₀).0 ≡ 0
  pub table : (ps t₀ : List ℕ) → 34816 ≤ length t₀ → (compile_on [] ps t₀).1 ≡ table_of empty_program t₀
  pub begun : (ps t₀ l₀ : List ℕ) → 34816 ≤ length t₀ → 2048 ≤ length l₀ → (start_on (compile_on [] ps t₀).1 l₀).0 ≡ 0
  pub at_rest : (ps t₀ l₀ : List ℕ) → 34816 ≤ length t₀ → 2048 ≤ length l₀ → (cs : List Call)
      → RestDayRound (compile_on [] ps t₀).1 (start_on (compile_on [] ps t₀).1 l₀).1 cs
  -- "Number 2 never occurs again."
  pub never_blank : (s ps t : List ℕ) → (compile_on s ps t).0 ≢ 2
