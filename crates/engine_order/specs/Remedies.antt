-- What a host can do whatever `agree` says, of every accepted sheet: two lists with the same commits in the same order
-- have equal boards; and a host that hands each event in to an idle round and runs it to idle has the events committed
-- in the order in which it hands them in. It gives up breaking in.
use Rattle.std.specs.Prelude.{ℕ, ◌≤◌, false, ◌≡◌, List, [], ◌∷◌, map, length}
use Rattle.lib_base.specs.Basics.{All}
use Rattle.spec_language.specs.Sheet.{Sheet}
use Rattle.spec_model.specs.Model.{Call, arrive, step, board, call}
use Rattle.spec_model.specs.Claims.{engine_after, copy_back_in, committed_in, taken_in_by, events_of}
use Rattle.back_compile.specs.Compiled.{program_of}
use Rattle.refine_calls.specs.Refinement.{call_on, calls, Bytes, bytes, bytes_after}
use Rattle.refine_lists.specs.Lists.{board_of, IdleNow, fresh_round_on, Prepared, TwoRounds}
use Rattle.engine_order.specs.Orders.{EventOrder, AppCall, delivers, frames, steps, reads, Offered, app_round, app_after, taken_now}

-- "two lists with the same commits in the same order have equal boards outside a copy-back"
abbrev pub EqualCommits : Type 0
EqualCommits =
    (s ps qs t₀ l₀ t₁ l₁ : List ℕ) (x : Sheet) → TwoRounds s ps qs t₀ l₀ t₁ l₁ x → (cs ds : List Call)
    → events_of (committed_in (program_of ps x) (map call cs)) ≡ events_of (committed_in (program_of ps x) (map call ds))
    → copy_back_in (program_of ps x) (engine_after (program_of ps x) (map call cs)) ≡ false
    → copy_back_in (program_of ps x) (engine_after (program_of ps x) (map call ds)) ≡ false
    → board_of (program_of ps x) (bytes_after (map calls cs) (fresh_round_on s ps t₀ l₀)).round
    ≡ board_of (program_of ps x) (bytes_after (map calls ds) (fresh_round_on s qs t₁ l₁)).round

-- "each event is handed in to an idle round": before each arrival a step would answer idle
abbrev pub Patiently : List Call → Bytes → Type 0
Patiently [] b = Unit {0}
Patiently (arrive e who ∷ cs) b = IdleNow b × Patiently cs (bytes b.table (call_on b.table (arrive e who) b.round).1)
Patiently (step ∷ cs) b = Patiently cs (bytes b.table (call_on b.table step b.round).1)
Patiently (board i who ∷ cs) b = Patiently cs (bytes b.table (call_on b.table (board i who) b.round).1)

-- ".. and the round is then run to idle": "the commits are the events handed in, in that order"
abbrev pub AsHandedIn : Type 0
AsHandedIn =
    (s ps t₀ l₀ : List ℕ) (x : Sheet) → Prepared s ps t₀ l₀ x → (cs : List Call) → Patiently cs (fresh_round_on s ps t₀ l₀)
    → IdleNow (bytes_after (map calls cs) (fresh_round_on s ps t₀ l₀))
    → committed_in (program_of ps x) (map call cs) ≡ taken_in_by (program_of ps x) (map call cs)

-- "so that two phones that do this always have equal boards"
abbrev pub BothPatiently : Type 0
BothPatiently =
    (s ps qs t₀ l₀ t₁ l₁ : List ℕ) (x : Sheet) → TwoRounds s ps qs t₀ l₀ t₁ l₁ x → (cs ds : List Call)
    → Patiently cs (fresh_round_on s ps t₀ l₀) → Patiently ds (fresh_round_on s qs t₁ l₁)
    → events_of (taken_in_by (program_of ps x) (map call cs)) ≡ events_of (taken_in_by (program_of ps x) (map call ds))
    → IdleNow (bytes_after (map calls cs) (fresh_round_on s ps t₀ l₀)) → IdleNow (bytes_after (map calls ds) (fresh_round_on s qs t₁ l₁))
    → board_of (program_of ps x) (bytes_after (map calls cs) (fresh_round_on s ps t₀ l₀)).round
    ≡ board_of (program_of ps x) (bytes_after (map calls ds) (fresh_round_on s qs t₁ l₁)).round

-- the same of an order's deliveries: an app that hands each entry in to an idle round
abbrev pub PatientApp : EventOrder → List AppCall → Bytes → Type 0
PatientApp order [] b = Unit {0}
PatientApp order (delivers n c ∷ cs) b = IdleNow b × PatientApp order cs (bytes b.table (app_round b.table order (delivers n c) b.round))
PatientApp order (frames k c ∷ cs) b = PatientApp order cs (bytes b.table (app_round b.table order (frames k c) b.round))
PatientApp order (steps ∷ cs) b = PatientApp order cs (bytes b.table (app_round b.table order steps b.round))
PatientApp order (reads i who ∷ cs) b = PatientApp order cs (bytes b.table (app_round b.table order (reads i who) b.round))

-- two of them, both idle with the same number taken in: their boards are equal
abbrev pub PatientPhones : Type 0
PatientPhones =
    (s ps qs t₀ l₀ t₁ l₁ : List ℕ) (x : Sheet) → TwoRounds s ps qs t₀ l₀ t₁ l₁ x → (order : EventOrder) → length order ≤ 1000000
    → (cs ds : List AppCall) → All (Offered order) cs → All (Offered order) ds
    → PatientApp order cs (fresh_round_on s ps t₀ l₀) → PatientApp order ds (fresh_round_on s qs t₁ l₁)
    → taken_now (app_after order cs (fresh_round_on s ps t₀ l₀)) ≡ taken_now (app_after order ds (fresh_round_on s qs t₁ l₁))
    → IdleNow (app_after order cs (fresh_round_on s ps t₀ l₀)) → IdleNow (app_after order ds (fresh_round_on s qs t₁ l₁))
    → board_of (program_of ps x) (app_after order cs (fresh_round_on s ps t₀ l₀)).round
    ≡ board_of (program_of ps x) (app_after order ds (fresh_round_on s qs t₁ l₁)).round

pub record Remedies : Type 0 where
  pub same_commits : EqualCommits
  pub as_handed_in : AsHandedIn
  pub both : BothPatiently
  pub in_order : PatientPhones
