-- The promise in an app's words. Phones that share an order of events hand it in by deliveries, each at its own speed,
-- and make frames, steps and board readings as they like: what is taken in is a beginning of the order, and where
-- `agree` is 0 their boards are equal when both are idle with the same number taken in. Nothing is assumed of what was
-- taken in. On table and round as compile and start left them: crate refine_lists, Lists.antt.
use Rattle.std.specs.Prelude.{ℕ, suc, ◌+◌, ◌*◌, ◌/◌, ◌%◌, ◌≤◌, ◌<◌, true, ◌≡◌, List, [], ◌∷◌, map, length, get_or, take}
use Rattle.lib_base.specs.Basics.{All}
use Rattle.spec_language.specs.Dependence.{events}
use Rattle.spec_language.specs.Rights.{may_send}
use Rattle.spec_language.specs.Sheet.{Sheet}
use Rattle.spec_language.specs.Syntax.{Program}
use Rattle.spec_model.specs.Model.{Arrival, arrival, Call, Turn, call}
use Rattle.spec_model.specs.Claims.{longest, number, in_queue, engine_after, committed_in, taken_in_by, ApartIn}
use Rattle.back_compile.specs.Compiled.{program_of}
use Rattle.ask_agree.specs.Agree.{agree_on}
use Rattle.run_step.specs.Machine.{step_on}
use Rattle.run_frame.specs.Frame.{frame_on}
use Rattle.run_deliver.specs.Deliver.{deliver_on, taken_on}
use Rattle.run_deliver.specs.Delivery.{taken_said}
use Rattle.refine_calls.specs.Refinement.{Bytes, bytes, calls, bytes_after}
use Rattle.refine_lists.specs.Lists.{board_of, IdleNow, SheetTurn, Compiles, on_bytes, AllMean, fresh_round_on, Prepared, TwoRounds}
use Rattle.refine_deliver.specs.Deliveries.{TakesIn}

-- ---- an order: events with the players who send them, entry 0 first

abbrev pub EventOrder : Type 0
EventOrder = List (ℕ × ℕ)

abbrev pub entry_event : EventOrder → ℕ → ℕ
entry_event order n = (get_or order n (0, 0)).0

abbrev pub entry_player : EventOrder → ℕ → ℕ
entry_player order n = (get_or order n (0, 0)).1

-- its entries as arrivals, numbered from n on
unfoldable pub entries_from : ℕ → EventOrder → List Arrival
entries_from n [] = []
entries_from n (x ∷ order) = arrival n x.0 x.1 ∷ entries_from (suc n) order

-- the first k of them
abbrev pub first_entries : ℕ → EventOrder → List Arrival
first_entries k order = entries_from 0 (take k order)

-- ---- what an app calls

pub data AppCall : Type 0 where
  delivers : ℕ → List ℕ → AppCall  -- entry n under the number n, with these bytes lent for commits
  frames : ℕ → List ℕ → AppCall  -- at most so many steps, with these bytes lent for commits
  steps : AppCall
  reads : ℕ → ℕ → AppCall  -- the behaviour and the player

-- "deliveries of entry n under the number n (any n, again, too early, too late, each with eight bytes or more)"
abbrev pub Offered : EventOrder → AppCall → Type 0
Offered order (delivers n b) = (n < length order) × (8 ≤ length b)
Offered order (frames k b) = k < 4294967296
Offered order steps = Unit {0}
Offered order (reads i who) = Unit {0}

-- the round's bytes after a call on the table t
unfoldable pub app_round : List ℕ → EventOrder → AppCall → List ℕ → List ℕ
app_round t order (delivers n b) l = (deliver_on t l n (entry_event order n) (entry_player order n) b).1
app_round t order (frames k b) l = (frame_on t l k b).1
app_round t order steps l = (step_on t l).1
app_round t order (reads i who) l = l

unfoldable pub app_after : EventOrder → List AppCall → Bytes → Bytes
app_after order [] b = b
app_after order (c ∷ cs) b = app_after order cs (bytes b.table (app_round b.table order c b.round))

-- "as long as `taken` says": the number that it tells
abbrev pub taken_now : Bytes → ℕ
taken_now b = taken_on b.table b.round % 4294967296

-- on demand 3's lists, changes of sheets included, it tells the number taken in and how many are in hand, "so that
-- commits are their difference"
abbrev pub TakenTells : Type 0
TakenTells =
    (s ps t₀ l₀ : List ℕ) (x : Sheet) → Prepared s ps t₀ l₀ x → (xs : List SheetTurn) → All Compiles xs → (ts : List Turn) → AllMean xs ts
    → (taken_on (bytes_after (map on_bytes xs) (fresh_round_on s ps t₀ l₀)).table (bytes_after (map on_bytes xs) (fresh_round_on s ps t₀ l₀)).round
    ≡ taken_said (number (engine_after (program_of ps x) ts)) (length (in_queue (engine_after (program_of ps x) ts))))
    × (length (committed_in (program_of ps x) ts) + length (in_queue (engine_after (program_of ps x) ts)) ≡ number (engine_after (program_of ps x) ts))

-- ---- one phone

-- a list of the app's calls from a fresh round of p, which leaves the bytes b
pub record OnePhone (p : Program) (first : Bytes) (order : EventOrder) (b : Bytes) : Type 0 where
  -- the calls of demand 3's lists that it is, so that all of demand 3 holds of it
  pub list : List Call
  pub leaves : b ≡ bytes_after (map calls list) first
  -- "what is taken in is a beginning of the order, each entry once and in its place, as long as `taken` says"
  pub taken_in : taken_in_by p (map call list) ≡ first_entries (taken_now b) order
  pub within : taken_now b ≤ length order
  -- "a delivery of the next entry is always taken in": of one that is declared and allowed
  pub next : taken_now b < length order → entry_event order (taken_now b) < events p → entry_player order (taken_now b) < 8
      → may_send p (entry_player order (taken_now b)) (entry_event order (taken_now b)) ≡ true → (commits : List ℕ) → 8 ≤ length commits
      → TakesIn b (taken_now b) (entry_event order (taken_now b)) (entry_player order (taken_now b)) commits (longest p * 3 / 2)

abbrev pub EveryPhone : Type 0
EveryPhone =
    (s ps t₀ l₀ : List ℕ) (x : Sheet) → Prepared s ps t₀ l₀ x → (order : EventOrder) → length order ≤ 1000000 → (cs : List AppCall) → All (Offered order) cs
    → OnePhone (program_of ps x) (fresh_round_on s ps t₀ l₀) order (app_after order cs (fresh_round_on s ps t₀ l₀))

-- ---- two phones on one sheet with one filling, under the condition C of sheet, parameters, program and what is taken
-- in

abbrev pub TwoPhonesWhere : (List ℕ → List ℕ → Program → List Arrival → Type 0) → Type 0
TwoPhonesWhere C =
    (s ps qs t₀ l₀ t₁ l₁ : List ℕ) (x : Sheet) → TwoRounds s ps qs t₀ l₀ t₁ l₁ x → (order : EventOrder) → length order ≤ 1000000
    → (cs ds : List AppCall) → All (Offered order) cs → All (Offered order) ds
    → taken_now (app_after order cs (fresh_round_on s ps t₀ l₀)) ≡ taken_now (app_after order ds (fresh_round_on s qs t₁ l₁))
    → C s ps (program_of ps x) (first_entries (taken_now (app_after order cs (fresh_round_on s ps t₀ l₀))) order)
    → IdleNow (app_after order cs (fresh_round_on s ps t₀ l₀)) → IdleNow (app_after order ds (fresh_round_on s qs t₁ l₁))
    → board_of (program_of ps x) (app_after order cs (fresh_round_on s ps t₀ l₀)).round
    ≡ board_of (program_of ps x) (app_after order ds (fresh_round_on s qs t₁ l₁)).round

-- "where `agree` is 0 (or those of unequal rank are independent): when both are idle with the same number taken in,
-- their boards are equal"
pub record SharedOrder : Type 0 where
  pub one : EveryPhone
  pub agreed : TwoPhonesWhere (λ s ps p l. agree_on s ps ≡ 0)
  pub apart : TwoPhonesWhere (λ s ps p l. ApartIn p l)
