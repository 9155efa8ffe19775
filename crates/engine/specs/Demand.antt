-- Demands 2 and 3, and M-100, M-101, M-104, M-107, M-112 and M-113 of document 02, as claims about the exported
-- functions: `compile_on`, `start_on`, `arrive_on`, `step_on`, `board_on`, `mend_on`, `forecast_on`, `preview_on` and
-- `told_on` are what their contracts cite. What is said of each list of calls and of changes of sheets: `OneList`, of
-- lists of calls alone `OnlyCalls`, of two lists `TwoLists` and `TwoOnlyCalls`, crate refine_lists, Lists.antt. The
-- model engine, and the sentences in its terms: crate spec_model, Model.antt and Claims.antt. M-107's rule for a player
-- stands above: crate secrecy_engine.
use Rattle.std.specs.Prelude.{ℕ, ◌+◌, ◌*◌, ◌≤◌, ◌<◌, ◌≡◌, List, map, length, get_or}
use Rattle.lib_base.specs.Basics.{All}
use Rattle.lib_word.specs.Word.{get}
use Rattle.spec_language.specs.Syntax.{Program}
use Rattle.spec_language.specs.Dependence.{size, events}
use Rattle.spec_language.specs.Sheet.{Sheet}
use Rattle.spec_language.specs.Grammar.{encode}
use Rattle.spec_language.specs.Accepted.{SheetAccepted}
use Rattle.spec_language.specs.Code.{off, code, members}
use Rattle.spec_semantics.specs.Rules.{Shows}
use Rattle.spec_semantics.specs.Meaning.{at, fresh}
use Rattle.spec_model.specs.Model.{Call, Turn}
use Rattle.format_layout.specs.Layout.{operation_at, constant_at, event_word}
use Rattle.format_image.specs.Image.{operation, constant, code_start}
use Rattle.format_image.specs.Table.{table_of}
use Rattle.back_compile.specs.Verdict.{compile_on}
use Rattle.back_compile.specs.Compiled.{program_of}
use Rattle.run_start.specs.Start.{start_on}
use Rattle.refine_lists.specs.Lists.{board_of, OneList, OnlyCalls, SheetTurn, Compiles, on_bytes, AllMean, fresh_round_on, TwoLists, TwoOnlyCalls}

-- ---- the code of event e in the table t of program p, word by word (layout: crate format_layout)

pub record CodeIn (p : Program) (t : List ℕ) (e : ℕ) : Type 0 where
  -- its record
  pub priority : event_word t e 0 ≡ get_or p.priorities e 0
  pub start : event_word t e 1 ≡ code_start p e
  pub count : event_word t e 2 ≡ length (code p e)
  pub in_C : event_word t e 3 ≡ members p e
  -- and from where the record says that it begins, two words for each instruction
  pub within : event_word t e 1 + event_word t e 2 ≤ 4096
  pub operations : (c : ℕ) → c < length (code p e) → operation_at t (event_word t e 1 + c) ≡ operation (get_or (code p e) c off)
  pub constants : (c : ℕ) → c < length (code p e) → constant_at t (event_word t e 1 + c) ≡ constant (get_or (code p e) c off)

-- ---- demand 3, every list: for a sheet s that compile accepts with the bytes ps lent for its parameters, its table in
-- t₀, and a round that start makes in l₀

pub record EveryList (s ps t₀ l₀ : List ℕ) : Type 0 where
  -- the sheet: it meets 01's grammar and limits, with no circle, and uses a parameter only if 32 bytes are lent
  pub sheet : Sheet
  pub bytes : encode sheet ≡ s
  pub taken : SheetAccepted (get ps) (length ps) sheet
  -- "each event's code is the one 01 lists": the table is that of the program, each parameter being the constant lent
  -- (02, M-103), a consequence of `AcceptedExactly.exactly`; and its words are those of `code` for each event e, of
  -- which `PaperOrder.in-the-table` tells besides how Figure 3 gives them
  pub table : (compile_on s ps t₀).1 ≡ table_of (program_of ps sheet) t₀
  pub code : (e : ℕ) → e < events (program_of ps sheet) → CodeIn (program_of ps sheet) (compile_on s ps t₀).1 e
  -- a fresh round: start answers 0, and the board has the start values with the passives worked out, which is what the
  -- rules show under no event, these values and no others
  pub begun : (start_on (compile_on s ps t₀).1 l₀).0 ≡ 0
  pub board : board_of (program_of ps sheet) (fresh_round_on s ps t₀ l₀).round ≡ fresh (program_of ps sheet)
  pub values : (i : ℕ) → i < size (program_of ps sheet) → Shows (program_of ps sheet) i (at (fresh (program_of ps sheet)) i)
  pub values_alone : (i v : ℕ) → i < size (program_of ps sheet) → Shows (program_of ps sheet) i v → v ≡ at (fresh (program_of ps sheet)) i
  -- every list of calls and of changes to sheets that compile accepts (02, M-112: "Demand 3's lists may hold such
  -- changes"): the turns of the model engine that it is, and what is said of it
  pub each : (xs : List SheetTurn) → All Compiles xs
      → (ts : List Turn) × AllMean xs ts × OneList (program_of ps sheet) l₀ (fresh_round_on s ps t₀ l₀) (map on_bytes xs) ts
  -- and demand 3 as 01 words it, "every list of arrivals, steps and board readings, refused ones included"
  pub calls : (cs : List Call) → OnlyCalls (program_of ps sheet) l₀ (fresh_round_on s ps t₀ l₀) cs

abbrev pub EverySheet : Type 0
EverySheet =
    (s ps t₀ l₀ : List ℕ) → All (λ b. b < 256) s → All (λ b. b < 256) ps → 2048 ≤ length l₀ → (compile_on s ps t₀).0 ≡ 0 → EveryList s ps t₀ l₀

-- ---- demand 3, whole

pub record WholeDemand : Type 0 where
  pub every_list : EverySheet
  -- "And for every two such lists on one sheet ..: when both are idle, their boards are equal.", with changes, and of
  -- calls alone
  pub two_lists : TwoLists
  pub two_only_calls : TwoOnlyCalls
