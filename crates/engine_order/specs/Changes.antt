-- The promise of an order with changes of sheets (02, M-112): phones that make the same changes, each on an idle round
-- with the same number taken in, make each of them; deliveries are then taken in or refused alike; and where `agree` is
-- 0 for each sheet their boards are equal when both are idle with the same number taken in.
use Rattle.std.specs.Prelude.{ℕ, ◌*◌, ◌/◌, ◌≤◌, ◌<◌, true, ◌≡◌, List, [], ◌∷◌, map, length, eqb}
use Rattle.lib_base.specs.Basics.{All, pick}
use Rattle.lib_word.specs.Word.{get, words}
use Rattle.spec_language.specs.Accepted.{SheetAccepted}
use Rattle.spec_language.specs.Dependence.{events}
use Rattle.spec_language.specs.Grammar.{encode}
use Rattle.spec_language.specs.Rights.{may_send}
use Rattle.spec_language.specs.Sheet.{Sheet}
use Rattle.spec_language.specs.Syntax.{Program}
use Rattle.spec_model.specs.Model.{Turn}
use Rattle.spec_model.specs.Claims.{longest, taken_in_by, program_after}
use Rattle.format_layout.specs.Layout.{behaviour_count, store_start}
use Rattle.back_compile.specs.Verdict.{compile_on}
use Rattle.back_compile.specs.Compiled.{program_of}
use Rattle.ask_agree.specs.Agree.{agree_on}
use Rattle.run_mend.specs.Mending.{mend_on}
use Rattle.run_deliver.specs.Deliver.{deliver_on}
use Rattle.refine_calls.specs.Refinement.{Bytes, bytes, mends, turn_on_bytes, bytes_after}
use Rattle.refine_frames.specs.Frames.{ended_by}
use Rattle.refine_lists.specs.Lists.{SheetTurn, Compiles, on_bytes, AllMean, IdleNow, fresh_round_on, Prepared, TwoRounds}
use Rattle.refine_deliver.specs.Deliveries.{TakesIn}
use Rattle.engine_order.specs.Orders.{EventOrder, entry_event, entry_player, first_entries, AppCall, Offered, app_round, taken_now}

-- a change that the phones share: with so many taken in, to this sheet with these parameters
pub record SheetChange : Type 0 where
  pub at : ℕ
  pub sheet : Sheet
  pub params : List ℕ

-- a sheet that compile accepts, with bytes lent for its parameters
abbrev pub Acceptable : SheetChange → Type 0
Acceptable c = All (λ b. b < 256) c.params × SheetAccepted (get c.params) (length c.params) c.sheet

-- a call, or a change: compile is lent the sheet, the parameters and bytes for a table, and the round is carried to it
pub data AppTurn : Type 0 where
  asks : AppCall → AppTurn
  alters : SheetChange → List ℕ → AppTurn

unfoldable pub app_turn : EventOrder → AppTurn → Bytes → Bytes
app_turn order (asks c) b = bytes b.table (app_round b.table order c b.round)
app_turn order (alters c u) b = (turn_on_bytes (mends (compile_on (encode c.sheet) c.params u).1) b).after

unfoldable pub turns_after : EventOrder → List AppTurn → Bytes → Bytes
turns_after order [] b = b
turns_after order (x ∷ xs) b = turns_after order xs (app_turn order x b)

-- "the same changes (sheet, filling, place), each made on an idle round with the same number taken in": those of the
-- plan, all of them, in its order
abbrev pub ByPlan : EventOrder → List SheetChange → List AppTurn → Bytes → Type 0
ByPlan order [] [] b = Unit {0}
ByPlan order (c ∷ plan) [] b = ⊥
ByPlan order [] (asks a ∷ xs) b = Offered order a × ByPlan order [] xs (app_turn order (asks a) b)
ByPlan order (c ∷ plan) (asks a ∷ xs) b = Offered order a × ByPlan order (c ∷ plan) xs (app_turn order (asks a) b)
ByPlan order [] (alters d u ∷ xs) b = ⊥
ByPlan order (c ∷ plan) (alters d u ∷ xs) b =
    (d ≡ c) × (34816 ≤ length u) × IdleNow b × (taken_now b ≡ c.at) × ByPlan order plan xs (app_turn order (alters d u) b)

-- "each change is made": it answers 0
abbrev pub ChangesMade : EventOrder → List AppTurn → Bytes → Type 0
ChangesMade order [] b = Unit {0}
ChangesMade order (asks a ∷ xs) b = ChangesMade order xs (app_turn order (asks a) b)
ChangesMade order (alters c u ∷ xs) b =
    ((mend_on b.table (compile_on (encode c.sheet) c.params u).1 b.round).0 ≡ 0) × ChangesMade order xs (app_turn order (alters c u) b)

-- ---- one phone

pub record ChangedPhone (p : Program) (first : Bytes) (order : EventOrder) (xs : List AppTurn) (b : Bytes) : Type 0 where
  -- the turns of demand 3's lists that it is
  pub list : List SheetTurn
  pub compile : All Compiles list
  pub means : List Turn
  pub mean : AllMean list means
  pub leaves : b ≡ bytes_after (map on_bytes list) first
  pub made : ChangesMade order xs first
  pub taken_in : taken_in_by p means ≡ first_entries (taken_now b) order
  pub within : taken_now b ≤ length order
  pub next : taken_now b < length order → entry_event order (taken_now b) < events (program_after p means) → entry_player order (taken_now b) < 8
      → may_send (program_after p means) (entry_player order (taken_now b)) (entry_event order (taken_now b)) ≡ true → (commits : List ℕ) → 8 ≤ length commits
      → TakesIn b (taken_now b) (entry_event order (taken_now b)) (entry_player order (taken_now b)) commits (longest (program_after p means) * 3 / 2)

-- ---- two phones

-- how a delivery ended, and its refusal where it is one
abbrev pub outcome_of : ℕ → ℕ × ℕ
outcome_of v = (ended_by v, pick (eqb (ended_by v) 0) v 0)

-- the board as the table in force has it
abbrev pub board_shown : Bytes → List ℕ
board_shown b = words b.round store_start (behaviour_count b.table)

pub record ChangedAlike (a b : Bytes) : Type 0 where
  -- "deliveries after it are taken in or refused alike"
  pub deliveries : (n e who : ℕ) (c d : List ℕ) → 8 ≤ length c → 8 ≤ length d
      → outcome_of (deliver_on a.table a.round n e who c).0 ≡ outcome_of (deliver_on b.table b.round n e who d).0
  -- "when both are idle with the same number taken in their boards are equal"
  pub boards : IdleNow a → IdleNow b → board_shown a ≡ board_shown b

-- on one sheet with one filling, under the condition C of sheet and parameters, which holds of each sheet
abbrev pub TwoChangedWhere : (List ℕ → List ℕ → Type 0) → Type 0
TwoChangedWhere C =
    (s ps qs t₀ l₀ t₁ l₁ : List ℕ) (x : Sheet) → TwoRounds s ps qs t₀ l₀ t₁ l₁ x → (order : EventOrder) → length order ≤ 1000000
    → (plan : List SheetChange) → All Acceptable plan → C s ps → All (λ (c : SheetChange). C (encode c.sheet) c.params) plan
    → (xs ys : List AppTurn) → ByPlan order plan xs (fresh_round_on s ps t₀ l₀) → ByPlan order plan ys (fresh_round_on s qs t₁ l₁)
    → taken_now (turns_after order xs (fresh_round_on s ps t₀ l₀)) ≡ taken_now (turns_after order ys (fresh_round_on s qs t₁ l₁))
    → ChangedAlike (turns_after order xs (fresh_round_on s ps t₀ l₀)) (turns_after order ys (fresh_round_on s qs t₁ l₁))

pub record SharedOrderChanged : Type 0 where
  pub one : (s ps t₀ l₀ : List ℕ) (x : Sheet) → Prepared s ps t₀ l₀ x → (order : EventOrder) → length order ≤ 1000000
      → (plan : List SheetChange) → All Acceptable plan → (xs : List AppTurn) → ByPlan order plan xs (fresh_round_on s ps t₀ l₀)
      → ChangedPhone (program_of ps x) (fresh_round_on s ps t₀ l₀) order xs (turns_after order xs (fresh_round_on s ps t₀ l₀))
  -- "`agree` 0 for each sheet"
  pub two : TwoChangedWhere (λ s ps. agree_on s ps ≡ 0)
