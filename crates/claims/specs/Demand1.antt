-- Demand 1, of the functions that the contracts of the exported calls cite: "A call is refused by the conditions and
-- order of document 01, and then the handler table, the round and the board are unchanged. Every other call, for all
-- bytes and numbers, is accepted, ends, and stays inside the buffers lent to it." That each call ends and stays inside
-- is the proof of its code; here: which number, when, in which order, and what is left. For all bytes and numbers.
use Rattle.std.specs.Prelude.{ℕ, zero, suc, ◌+◌, ◌*◌, ◌-◌, ◌/◌, ◌%◌, ◌≤◌, ◌<◌, Bool, true, false, ◌&&◌, ◌≡◌, ◌≢◌, ◌⊎◌, List, [], ◌∷◌, ltb, eqb, length, take, drop, replicate}
use Rattle.lib_base.specs.Basics.{pick, All}
use Rattle.lib_word.specs.Word.{get}
use Rattle.lib_signature.specs.Signature.{arity}
use Rattle.spec_language.specs.Reading.{read_sheet}
use Rattle.spec_language.specs.Rights.{may}
use Rattle.spec_language.specs.Answers.{told}
use Rattle.spec_model.specs.Model.{arrive, step}
use Rattle.spec_model.specs.Claims.{count_of}
use Rattle.format_layout.specs.Layout.{event_word, event_count, behaviour_count, senders_at, viewers_at, passives_start, store_start, operation_at}
use Rattle.format_layout.specs.Layout.{passives_length, event_of, player_of, taken, waiting_count, running_flag}
use Rattle.format_layout.specs.Layout.{running_number, running_word, running_event, position, depth, number_at, word_at}
use Rattle.format_layout.specs.Layout.{event_at}
use Rattle.run_instruction.specs.Allowed.{may_run}
use Rattle.run_start.specs.Start.{start_on}
use Rattle.run_arrive.specs.Arrivals.{arrive_on}
use Rattle.run_board.specs.Board.{board_on}
use Rattle.run_board.specs.Masking.{is_masked, copy_back_under_way}
use Rattle.run_dispatch.specs.Said.{said_of}
use Rattle.run_advance.specs.Mark.{over_mark}
use Rattle.run_step.specs.Machine.{step_on}
use Rattle.run_forecast.specs.Forecast.{forecast_on}
use Rattle.run_forecast.specs.Steps.{steps_in, longest_in}
use Rattle.run_preview.specs.Preview.{preview_on}
use Rattle.run_mend.specs.Mending.{mend_on}
use Rattle.back_compile.specs.Verdict.{compile_on}
use Rattle.back_compile.specs.Statements.{FirstUnmet, AfterReading}
use Rattle.refine_calls.specs.Refinement.{round_after}
use Rattle.engine.specs.Beyond.{UntouchedFrom}

-- ---- a table and a round that are not foreign

-- "Foreign: table .. shorter than stated; counts above 32 events, 64 behaviours ..; code outside 4,096"
pub record OurTable (t : List ℕ) : Type 0 where
  pub long : 34816 ≤ length t
  pub few_events : event_count t ≤ 32
  pub few_behaviours : behaviour_count t ≤ 64
  pub code_within : (e : ℕ) → e < event_count t → event_word t e 1 + event_word t e 2 ≤ 4096

-- P of each arrival in hand, by the word of its event and player: those that wait, and the running one
abbrev pub EachInHand : (ℕ → Type 0) → List ℕ → Type 0
EachInHand P l = ((i : ℕ) → i < waiting_count l → P (word_at l i)) × (running_flag l ≢ 0 → P (running_word l))

-- how many are in hand
abbrev pub hand_count : List ℕ → ℕ
hand_count l = waiting_count l + pick (eqb (running_flag l) 0) 0 1

-- ".. or round shorter than stated; .. 64 in hand; .. an undeclared event in hand; running position outside its event's
-- code; evaluation stack above 64"; 02, M-107: "24 when the player is above 7, after 14, which also covers such a
-- player in hand"
pub record OurRound (t l : List ℕ) : Type 0 where
  pub table : OurTable t
  pub long : 2048 ≤ length l
  pub few_in_hand : hand_count l ≤ 64
  pub shallow : depth l ≤ 64
  pub hand : EachInHand (λ w. (event_of w < event_count t) × (player_of w < 8)) l
  pub running : running_flag l ≢ 0 → position l < event_word t (running_event l) 2

-- ---- an instruction that may run, and one that a step would run

-- instruction k may run on a stack of depth d: it is not "an instruction not of this paper, with a slot above 63, or
-- taking from an empty or adding to a full stack"
abbrev pub may_run_at : List ℕ → ℕ → ℕ → Bool
may_run_at t k d = may_run (operation_at t k / 256) (operation_at t k % 256) d

-- the running event is unmasked, and one that waits is of a higher rank
abbrev pub GivesWay : List ℕ → List ℕ → Type 0
GivesWay t l =
    (is_masked (event_word t (running_event l) 2) (event_word t (running_event l) 3) (position l) ≡ false)
    × ((i : ℕ) × (i < waiting_count l) × (event_word t (running_event l) 0 < event_word t (event_at l i) 0))

-- "a step that would run one"
abbrev pub RunsOne : List ℕ → List ℕ → Type 0
RunsOne t l = (running_flag l ≢ 0) × (GivesWay t l → ⊥)

-- the instruction at the running event's count may run
abbrev pub instruction_fits : List ℕ → List ℕ → Bool
instruction_fits t l = may_run_at t (event_word t (running_event l) 1 + position l) (depth l)

-- how deep a stack of depth d is after operation op with slot s: push, load and fetch add one, a function takes its
-- arguments and adds one, save and defer take one
abbrev pub depth_after : ℕ → ℕ → ℕ → ℕ
depth_after op s d = pick (ltb op 5) d (pick (ltb op 8) (d + 1) (pick (eqb op 8) (d - (arity s - 1)) (pick (ltb op 11) (d - 1) d)))

-- each of n instructions from k on may run in turn, on a stack of depth d at first
unfoldable pub all_run : List ℕ → ℕ → ℕ → ℕ → Bool
all_run t k zero d = true
all_run t k (suc n) d = may_run_at t k d && all_run t (k + 1) n (depth_after (operation_at t k / 256) (operation_at t k % 256) d)

-- 02, M-112: "each instruction that the passives need" lies within 4,096 and may run
abbrev pub PassivesRun : List ℕ → Type 0
PassivesRun t = (passives_start t + passives_length t ≤ 4096) × (all_run t (passives_start t) (passives_length t) 0 ≡ true)

-- ---- the longer orders: what a call needs, in this order, each with the number that is answered where it fails

-- "Arrival: 14, 15, 16, 17."; 02, M-107: 24 after 14, 25 after 15
abbrev pub arrive_order : List ℕ → List ℕ → ℕ → ℕ → List (Type 0 × ℕ)
arrive_order t l e who =
    (OurRound t l, 14)
    ∷ (who < 8, 24)
    ∷ (e < event_count t, 15)
    ∷ (may (senders_at t e) who ≡ true, 25)
    ∷ (hand_count l < 64, 16) ∷ (taken l < 1000000, 17) ∷ []

-- "Board: 14, 18, 19."; 02, M-107: 24 after 14, 25 after 18
abbrev pub board_order : List ℕ → List ℕ → ℕ → ℕ → List (Type 0 × ℕ)
board_order t l i who =
    (OurRound t l, 14)
    ∷ (who < 8, 24)
    ∷ (i < behaviour_count t, 18)
    ∷ (may (viewers_at t i) who ≡ true, 25)
    ∷ (copy_back_under_way t l ≡ false, 19) ∷ []

-- 02, M-112: 14, which looks "at the round with the old table, at the new table's length, counts and code, and at each
-- instruction that the passives need"; "19, checked after 14"; "28 when the hand holds an event that the new sheet
-- doesn't declare, checked after 19"
abbrev pub mend_order : List ℕ → List ℕ → List ℕ → List (Type 0 × ℕ)
mend_order old t l =
    (OurRound old l, 14)
    ∷ (OurTable t, 14)
    ∷ (PassivesRun t, 14)
    ∷ (copy_back_under_way old l ≡ false, 19)
    ∷ (EachInHand (λ w. event_of w < event_count t) l, 28) ∷ []

-- ---- a preview

-- "on a copy", of the round's 2,048 bytes: the copy, once the arrival is taken in and n steps are made
abbrev pub copy_after : List ℕ → List ℕ → ℕ → ℕ → ℕ → List ℕ
copy_after t l e who n = round_after t (arrive e who ∷ replicate n step) (take 2048 l)

-- 01's count, of a round's bytes
abbrev pub count_to_idle : List ℕ → List ℕ → ℕ
count_to_idle t l = count_of (hand_count l) (longest_in t (event_count t))

-- "the value that the board would show after this arrival and everything in hand had been run to idle": 2 ^ 32 and the
-- word, where a step finds the copy idle after no more than 01's count; "last by 14 where a step on the copy would be
-- or 01's count runs out": where none does, a step that is refused leaving the copy as it was
abbrev pub PreviewEnds : List ℕ → List ℕ → ℕ → ℕ → ℕ → ℕ → Type 0
PreviewEnds t l e i who r =
    ((n : ℕ) × (n ≤ count_to_idle t (copy_after t l e who 0)) × ((step_on t (copy_after t l e who n)).0 ≡ 0)
    × (r ≡ told (get (copy_after t l e who n) (store_start + i))))
    ⊎ (((n : ℕ) → n ≤ count_to_idle t (copy_after t l e who 0) → (step_on t (copy_after t l e who n)).0 ≢ 0) × (r ≡ 14))

-- ---- what a step that is not refused answers: one of 01's five, and where one starts or commits, the number, event
-- and player of an arrival in hand; 2 ^ 56 more where a commit carries M-104's mark

pub data StepGives (l : List ℕ) : ℕ → Type 0 where
  -- "else idle": nothing is in hand
  is_idle : running_flag l ≡ 0 → waiting_count l ≡ 0 → StepGives l 0
  -- "something runs: one instruction", and the one that commits it
  has_run : running_flag l ≢ 0 → StepGives l 1
  has_committed : running_flag l ≢ 0 → StepGives l (said_of 3 (running_number l) (running_word l))
  has_committed_over : running_flag l ≢ 0 → StepGives l (over_mark + said_of 3 (running_number l) (running_word l))
  -- "something waits: the next starts"; it breaks in where something runs
  has_started : (i : ℕ) → running_flag l ≡ 0 → i < waiting_count l → StepGives l (said_of 2 (number_at l i) (word_at l i))
  has_broken_in : (i : ℕ) → running_flag l ≢ 0 → i < waiting_count l → StepGives l (said_of 4 (number_at l i) (word_at l i))

-- ---- M-100: "with nothing running .. the sum, over the hand, of each event's instruction count plus one"; "While
-- something runs, that call gives 01's bound.": the count that a preview's steps end by
abbrev pub forecast_count : List ℕ → List ℕ → ℕ
forecast_count t l = pick (eqb (running_flag l) 0) (steps_in t l (waiting_count l)) (count_to_idle t l)

pub record Demand1 : Type 0 where
  -- "A call is refused by the conditions and order of document 01": what it needs, in this order; "Every other call ..
  -- is accepted": 0
  -- compile: "1, 2, 3; then left to right, the first fault met; then 11, 12, 13." 02: 2 is never given, 20 after 11
  pub compile_order : (s ps t : List ℕ)
      → FirstUnmet ((34816 ≤ length t, 1) ∷ (length s ≤ 8192, 3) ∷ []) (AfterReading (read_sheet s) ps) (compile_on s ps t).0
  -- "Start: 14 for the two lengths and the table only"
  pub start_order : (t l : List ℕ) → FirstUnmet ((OurTable t, 14) ∷ (2048 ≤ length l, 14) ∷ []) (λ r. r ≡ 0) (start_on t l).0
  pub arrive_order_law : (t l : List ℕ) (e who : ℕ) → FirstUnmet (arrive_order t l e who) (λ r. r ≡ 0) (arrive_on t l e who).0
  -- "Step: 14."; one that is accepted answers what it did, of an arrival that was in hand
  pub step_order : (t l : List ℕ)
      → FirstUnmet ((OurRound t l, 14) ∷ (RunsOne t l → instruction_fits t l ≡ true, 14) ∷ []) (λ r. StepGives l r) (step_on t l).0
  -- 2 ^ 32 and the word
  pub board_order_law : (t l : List ℕ) (i who : ℕ) → FirstUnmet (board_order t l i who) (λ r. r ≡ told (get l (store_start + i))) (board_on t l i who)
  pub mend_order_law : (old t l : List ℕ) → FirstUnmet (mend_order old t l) (λ r. r ≡ 0) (mend_on old t l).0
  -- M-100: "refused by 14 only", else 2 ^ 32 and the steps
  pub forecast_order : (t l : List ℕ) → FirstUnmet ((OurRound t l, 14) ∷ []) (λ r. r ≡ told (forecast_count t l)) (forecast_on t l)
  -- M-101: "turned down as the arrival would be, then by 18, and last by 14"; M-107: 25 after 18
  pub preview_order : (t l : List ℕ) (e i who : ℕ)
      → FirstUnmet
      (((arrive_on t l e who).0 ≡ 0, (arrive_on t l e who).0) ∷ (i < behaviour_count t, 18) ∷ (may (viewers_at t i) who ≡ true, 25) ∷ [])
      (PreviewEnds t l e i who) (preview_on t l e i who)
  -- ".. and then the handler table, the round and the board are unchanged": a board reading, a forecast and a preview
  -- change nothing at all, and no call but compile changes a table (their contracts)
  pub compile_unchanged : (s ps t : List ℕ) → (compile_on s ps t).0 ≢ 0 → (compile_on s ps t).1 ≡ t
  pub start_unchanged : (t l : List ℕ) → (start_on t l).0 ≢ 0 → (start_on t l).1 ≡ l
  pub arrive_unchanged : (t l : List ℕ) (e who : ℕ) → (arrive_on t l e who).0 ≢ 0 → (arrive_on t l e who).1 ≡ l
  pub step_unchanged : (t l : List ℕ) → (step_on t l).0 ≡ 14 → (step_on t l).1 ≡ l
  pub mend_unchanged : (old t l : List ℕ) → (mend_on old t l).0 ≢ 0 → (mend_on old t l).1 ≡ l
  -- "the round's old bytes are not read": rounds of one length, alike beyond 2,048 bytes, start as the same bytes
  pub start_fresh : (t l m : List ℕ) → length l ≡ length m → drop 2048 l ≡ drop 2048 m → (start_on t l).0 ≡ 0 → (start_on t l).1 ≡ (start_on t m).1
  -- "bytes beyond these are untouched": 34,816 of a table, 2,048 of a round
  pub compile_beyond : (s ps t : List ℕ) → All (λ b. b < 256) s → All (λ b. b < 256) ps → UntouchedFrom 34816 t (compile_on s ps t).1
  pub start_beyond : (t l : List ℕ) → UntouchedFrom 2048 l (start_on t l).1
  pub arrive_beyond : (t l : List ℕ) (e who : ℕ) → UntouchedFrom 2048 l (arrive_on t l e who).1
  pub step_beyond : (t l : List ℕ) → UntouchedFrom 2048 l (step_on t l).1
  pub mend_beyond : (old t l : List ℕ) → UntouchedFrom 2048 l (mend_on old t l).1
