-- Demand 3 of the bytes: what is said of every list of turns, calls and changes of sheets, on a program's table and a
-- round that start has just made fresh from it; of lists of calls alone, as 01 words them; and of two lists. The
-- sentences of the model engine: crate spec_model, Claims.antt. Turns on bytes: crate refine_calls, Refinement.antt.
use Rattle.std.specs.Prelude.{ℕ, ◌+◌, ◌≤◌, ◌<◌, Bool, true, false, ◌≡◌, ◌≢◌, eqb, length}
use mathlib.Core.List.{List, [], ◌∷◌, ◌++◌, map, zip_with, Forall₂}
use Rattle.lib_base.specs.Basics.{All, pick}
use Rattle.lib_word.specs.Word.{get, words}
use Rattle.spec_language.specs.Accepted.{SheetAccepted}
use Rattle.spec_language.specs.Dependence.{size, events}
use Rattle.spec_language.specs.Grammar.{encode}
use Rattle.spec_language.specs.Rights.{may_send}
use Rattle.spec_language.specs.Sheet.{Sheet}
use Rattle.spec_language.specs.Syntax.{Program}
use Rattle.spec_language.specs.Answers.{told}
use Rattle.spec_semantics.specs.Meaning.{fresh, with_store}
use Rattle.spec_semantics.specs.Over.{EventOver}
use Rattle.spec_semantics.specs.Plays.{Plays}
use Rattle.spec_model.specs.Claims.{program_after, engine_after, after, history_from, history_of, taken_in_by, SameChanges}
use Rattle.spec_model.specs.Claims.{ApartEach, number, IdleIn, last, Replays, Sentences, events_of, copy_back_in}
use Rattle.spec_model.specs.Claims.{alone_calls, forecast, foreseen, committed_in, ApartIn, Unchanged}
use Rattle.spec_model.specs.Model.{Turn, call, Reply, says, carried_over, replies, begun, change, Arrival, arrival, step, refused, committed, Call}
use Rattle.format_image.specs.Table.{table_of}
use Rattle.format_layout.specs.Layout.{store_start}
use Rattle.back_compile.specs.Verdict.{compile_on}
use Rattle.back_compile.specs.Compiled.{program_of}
use Rattle.run_start.specs.Start.{start_on}
use Rattle.run_arrive.specs.Arrivals.{arrive_on}
use Rattle.run_step.specs.Machine.{step_on}
use Rattle.run_forecast.specs.Forecast.{forecast_on}
use Rattle.run_preview.specs.Preview.{preview_on}
use Rattle.refine_calls.specs.Refinement.{coded, decoded, told_on, Kept, ByteTurn, calls, mends, Bytes, bytes, bytes_after, coded_reply, numbers_on, ViewIn}

-- the board of a round: the values of p's behaviours, as read from its bytes
abbrev pub board_of : Program → List ℕ → List ℕ
board_of p l = words l store_start (size p)

-- "Idle: a step called now would answer idle.", on the table in force
abbrev pub IdleNow : Bytes → Type 0
IdleNow b = (step_on b.table b.round).0 ≡ 0

-- the reply that a number names, by the kind of turn
abbrev pub decoded_reply : ByteTurn → ℕ → Reply
decoded_reply (calls c) v = says (decoded c v)
decoded_reply (mends u) v = pick (eqb v 0) carried_over (says (refused v))

-- 02, M-104: the mark m with which arrival a is committed after the turns ts
pub record CommitMark (p : Program) (ts : List Turn) (a : Arrival) (m : Bool) : Type 0 where
  -- the board that the rules give for the history so far, and no other
  pub before : List ℕ
  pub played : Replays p (history_of p ts) (fresh p) before
  pub alone : (b : List ℕ) → Replays p (history_of p ts) (fresh p) b → b ≡ before
  -- "set exactly if some application in that event's meaning did so", in the program in force that carries this board
  pub set_if : EventOver (with_store (program_after p ts) before) a.event → m ≡ true
  pub only_if : m ≡ true → EventOver (with_store (program_after p ts) before) a.event

-- ---- one list: the turns xs on the bytes b, a fresh round of p in the bytes l₀, which are the turns ts of the model
-- engine

pub record OneList (p : Program) (l₀ : List ℕ) (b : Bytes) (xs : List ByteTurn) (ts : List Turn) : Type 0 where
  -- "every answer .. is what 01's model engine gives"
  pub answers : numbers_on xs b ≡ map coded_reply (replies ts (begun p))
  -- the numbers name those answers: the committed and the taken in of the other parts are those that they name
  pub read : zip_with decoded_reply xs (numbers_on xs b) ≡ replies ts (begun p)
  -- "The table is still as compile left it": the one in force, for the program in force
  pub table : (lent : List ℕ) × (34816 ≤ length lent) × ((bytes_after xs b).table ≡ table_of (program_after p ts) lent)
  -- ".. and the round after the list"
  pub round : ViewIn (bytes_after xs b).round (after p ts)
  pub beyond : Kept l₀ (bytes_after xs b).round
  -- a step called now answers idle exactly if the model engine's does: a consequence of `answers`, one step more being
  -- a list too
  pub idle : (IdleNow (bytes_after xs b) → IdleIn (after p ts)) × (IdleIn (after p ts) → IdleNow (bytes_after xs b))
  -- "After the list, unless a copy-back is under way, the board equals what demand 2's rules give for the committed
  -- events, one by one, undivided, in order of commitment." 02, M-112: "Commits before the change follow the old sheet
  -- and later ones the new"; and the rules lead to no other board
  pub board : copy_back_in (program_after p ts) (engine_after p ts) ≡ false
      → Replays p (history_of p ts) (fresh p) (board_of (program_after p ts) (bytes_after xs b).round)
  pub board_alone : copy_back_in (program_after p ts) (engine_after p ts) ≡ false → (s : List ℕ) → Replays p (history_of p ts) (fresh p) s
      → s ≡ board_of (program_after p ts) (bytes_after xs b).round
  -- of the model engine, whose answers these are: "Each arrival taken in is committed at most once, exactly once when
  -- idle, and after every earlier one of equal rank. A lower rank precedes a higher one only if the higher was taken in
  -- after the lower's copy-back began. Once no more are taken in, the round is idle within 01's count of steps.";
  -- M-100's exact count; M-101, that whichever way the round is run to idle its board shows the value foreseen; M-113,
  -- that nobody waits for ever
  pub sentences : Sentences p ts
  -- demand 2: "An event run alone leaves on the board, for every behaviour, the value that the paper's big-step rules
  -- give": from an idle round, an event that is taken in, from whoever may send it, and stepped to its commit
  pub one_event_law : IdleNow (bytes_after xs b) → (e who : ℕ) → e < events (program_after p ts) → who < 8 → may_send (program_after p ts) who e ≡ true
      → number (engine_after p ts) < 1000000
      → (history_from (after p ts) (map call (alone_calls (program_after p ts) e who)) ≡ last (arrival (number (engine_after p ts)) e who ∷ []))
      × Plays (program_after p ts) (e ∷ []) (board_of (program_after p ts) (bytes_after xs b).round)
      (board_of (program_after p ts) (bytes_after (xs ++ map calls (alone_calls (program_after p ts) e who)) b).round)
  -- 02, M-100: "The same number is offered as a call of its own on a round .. While something runs, that call gives
  -- 01's bound.": 2 ^ 32 and the number
  pub forecast : forecast_on (bytes_after xs b).table (bytes_after xs b).round ≡ told (forecast (program_after p ts) (engine_after p ts))
  -- 02, M-101: "A preview takes a round, an event and a behaviour, and tells the value that the board would show after
  -- this arrival and everything in hand had been run to idle. It equals doing so on a copy .. It is turned down as the
  -- arrival would be (`Demand1.preview-order`), then by 18": of such a round a step never is, and 01's count is enough.
  -- M-107: "Each arrival, board reading and preview now carries its player .. A preview needs both rights"
  pub preview : (e i who : ℕ) → (arrive_on (bytes_after xs b).table (bytes_after xs b).round e who).0 ≡ 0
      → preview_on (bytes_after xs b).table (bytes_after xs b).round e i who ≡ coded (foreseen (program_after p ts) (engine_after p ts) e i who)
  -- 02, M-104: "the committing step's answer carries a mark: set exactly if some application in that event's meaning
  -- did so. .. What a broken-in handler found is dropped": of the step called next, as its number is read
  pub mark : (a : Arrival) (m : Bool) → decoded step (step_on (bytes_after xs b).table (bytes_after xs b).round).0 ≡ committed a m → CommitMark p ts a m
  -- 02, M-107: "only the host is told M-104's mark: a step carries no player and returns the host's answer, and a
  -- further call turns that into the others', without the mark": of the step called next, a commit's number and any
  -- other
  pub told_commit : (a : Arrival) (m : Bool) → decoded step (step_on (bytes_after xs b).table (bytes_after xs b).round).0 ≡ committed a m
      → told_on (step_on (bytes_after xs b).table (bytes_after xs b).round).0 ≡ coded (committed a false)
  pub told_else : ((a : Arrival) (m : Bool) → decoded step (step_on (bytes_after xs b).table (bytes_after xs b).round).0 ≢ committed a m)
      → told_on (step_on (bytes_after xs b).table (bytes_after xs b).round).0 ≡ (step_on (bytes_after xs b).table (bytes_after xs b).round).0

-- ---- lists of calls alone, as 01 words them: each is a list of turns, so all of the above holds of it

pub record OnlyCalls (p : Program) (l₀ : List ℕ) (b : Bytes) (cs : List Call) : Type 0 where
  pub list : OneList p l₀ b (map calls cs) (map call cs)
  -- the history is the commits, under one sheet, and further calls change no sheet either, a consequence of what a
  -- call's reply can be: so the sentences of what follows hold of them
  pub history : history_of p (map call cs) ≡ last (committed_in p (map call cs))
  pub unchanged : (ds : List Call) → Unchanged (map call ds) (after p (map call cs))
  -- the sheet stays in force, and "The table is still as compile left it"
  pub in_force_law : program_after p (map call cs) ≡ p
  pub table : (bytes_after (map calls cs) b).table ≡ b.table
  -- "After the list, unless a copy-back is under way, the board equals what demand 2's rules give for the committed
  -- events, one by one, undivided, in order of commitment."; and no other board
  pub board : copy_back_in p (engine_after p (map call cs)) ≡ false
      → Plays p (events_of (committed_in p (map call cs))) (fresh p) (board_of p (bytes_after (map calls cs) b).round)
  pub board_alone : copy_back_in p (engine_after p (map call cs)) ≡ false → (s : List ℕ)
      → Plays p (events_of (committed_in p (map call cs))) (fresh p) s → s ≡ board_of p (bytes_after (map calls cs) b).round

-- ---- turns from sheets

-- a call, or a change: compile is lent a sheet, parameters and bytes for a table, and the round is carried to that
-- table
pub data SheetTurn : Type 0 where
  calling : Call → SheetTurn
  mending : List ℕ → List ℕ → List ℕ → SheetTurn

-- compile accepts the sheet
abbrev pub Compiles : SheetTurn → Type 0
Compiles (calling c) = Unit {0}
Compiles (mending s ps t) = All (λ b. b < 256) s × All (λ b. b < 256) ps × ((compile_on s ps t).0 ≡ 0)

-- the turn on the bytes
abbrev pub on_bytes : SheetTurn → ByteTurn
on_bytes (calling c) = calls c
on_bytes (mending s ps t) = mends (compile_on s ps t).1

-- the turn of the model engine: a change is to the sheet's program, each parameter being the constant lent
abbrev pub Means : SheetTurn → Turn → Type 0
Means (calling c) (call d) = c ≡ d
Means (calling c) (change q) = ⊥
Means (mending s ps t) (call d) = ⊥
Means (mending s ps t) (change q) = (x : Sheet) × (encode x ≡ s) × SheetAccepted (get ps) (length ps) x × (q ≡ program_of ps x)

-- turn by turn, and none left over (the library's `Forall₂`)
abbrev pub AllMean : List SheetTurn → List Turn → Type 0
AllMean = Forall₂ Means

-- the table that compile leaves, and the round that start makes fresh from it
abbrev pub fresh_round_on : List ℕ → List ℕ → List ℕ → List ℕ → Bytes
fresh_round_on s ps t₀ l₀ = bytes (compile_on s ps t₀).1 (start_on (compile_on s ps t₀).1 l₀).1

-- compile takes the sheet x, sent as the bytes s with the parameters ps, into the table t; l has room for a round. The
-- sheet is the one that `encode-Injective` makes the only one
pub record Prepared (s ps t l : List ℕ) (x : Sheet) : Type 0 where
  pub param_bytes : All (λ b. b < 256) ps
  pub room : 2048 ≤ length l
  pub compiles : (compile_on s ps t).0 ≡ 0
  pub sent_as : encode x ≡ s
  pub taken : SheetAccepted (get ps) (length ps) x

-- ---- two lists on one sheet, each on a table and a round of its own. The parameters lent may differ where the program
-- filled in is the same: none to one and 32 bytes to the other of a sheet that uses none, for instance

pub record TwoRounds (s ps qs t₀ l₀ t₁ l₁ : List ℕ) (x : Sheet) : Type 0 where
  pub one : Prepared s ps t₀ l₀ x
  pub other : Prepared s qs t₁ l₁ x
  pub filled : program_of qs x ≡ program_of ps x

-- "for every two such lists on one sheet, taking in the same events in the same order ..: when both are idle, their
-- boards are equal"; 02, M-112: with "the same change after the same commits"; under the condition C, of the bytes of
-- sheet and parameters, the program and the first list
abbrev pub TwoListsWhere : (List ℕ → List ℕ → Program → List SheetTurn → List Turn → Type 0) → Type 0
TwoListsWhere C =
    (s ps qs t₀ l₀ t₁ l₁ : List ℕ) (x : Sheet) → TwoRounds s ps qs t₀ l₀ t₁ l₁ x
    → (xs ys : List SheetTurn) → All Compiles xs → All Compiles ys
    → (ts us : List Turn) → AllMean xs ts → AllMean ys us
    → events_of (taken_in_by (program_of ps x) ts) ≡ events_of (taken_in_by (program_of ps x) us)
    → SameChanges (history_of (program_of ps x) ts) (history_of (program_of ps x) us)
    → C s ps (program_of ps x) xs ts
    → IdleNow (bytes_after (map on_bytes xs) (fresh_round_on s ps t₀ l₀)) → IdleNow (bytes_after (map on_bytes ys) (fresh_round_on s qs t₁ l₁))
    → board_of (program_after (program_of ps x) ts) (bytes_after (map on_bytes xs) (fresh_round_on s ps t₀ l₀)).round
    ≡ board_of (program_after (program_of ps x) us) (bytes_after (map on_bytes ys) (fresh_round_on s qs t₁ l₁)).round

-- "equal boards on two phones need independence in each sheet"
abbrev pub TwoLists : Type 0
TwoLists = TwoListsWhere (λ s ps p xs ts. ApartEach p (history_of p ts))

-- of calls alone, as 01 words it; 02, M-107: "Arrivals in hand commit as before, whoever sent them"
abbrev pub TwoCallsWhere : (List ℕ → List ℕ → Program → List Call → Type 0) → Type 0
TwoCallsWhere C =
    (s ps qs t₀ l₀ t₁ l₁ : List ℕ) (x : Sheet) → TwoRounds s ps qs t₀ l₀ t₁ l₁ x
    → (cs ds : List Call)
    → events_of (taken_in_by (program_of ps x) (map call cs)) ≡ events_of (taken_in_by (program_of ps x) (map call ds))
    → C s ps (program_of ps x) cs
    → IdleNow (bytes_after (map calls cs) (fresh_round_on s ps t₀ l₀)) → IdleNow (bytes_after (map calls ds) (fresh_round_on s qs t₁ l₁))
    → board_of (program_of ps x) (bytes_after (map calls cs) (fresh_round_on s ps t₀ l₀)).round
    ≡ board_of (program_of ps x) (bytes_after (map calls ds) (fresh_round_on s qs t₁ l₁)).round

-- "those of unequal rank being independent", of the arrivals taken in
abbrev pub TwoOnlyCalls : Type 0
TwoOnlyCalls = TwoCallsWhere (λ s ps p cs. ApartIn p (taken_in_by p (map call cs)))
