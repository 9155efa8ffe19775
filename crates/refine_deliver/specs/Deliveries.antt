-- A delivery is the steps that it makes and the one arrival where it was taken in: as many `step` calls and one
-- `arrive` leave the same round, and the answer of the step that commits is what it writes. So a list of calls (01
-- "Whole runs", demand 3) may hold a delivery, as these. Of all bytes; and of demand 3's lists, that an entry is always
-- taken in, and within how many steps.
use Rattle.std.specs.Prelude.{ℕ, ◌+◌, ◌*◌, ◌/◌, ◌%◌, ◌≤◌, ◌<◌, true, ◌≡◌, ◌≢◌, List, [], ◌∷◌, ◌++◌, map, length, eqb}
use Rattle.lib_base.specs.Basics.{pick, All}
use Rattle.spec_language.specs.Dependence.{events}
use Rattle.spec_language.specs.Rights.{may_send}
use Rattle.spec_language.specs.Sheet.{Sheet}
use Rattle.spec_language.specs.Answers as kinds
use Rattle.spec_model.specs.Model.{Call, arrive, step, Turn}
use Rattle.spec_model.specs.Claims.{longest, number, program_after, engine_after}
use Rattle.format_layout.specs.Layout.{taken}
use Rattle.back_compile.specs.Compiled.{program_of}
use Rattle.run_deliver.specs.Deliver.{deliver_on}
use Rattle.run_deliver.specs.Delivery.{delivered_now, no_commit_room, broken_off}
use Rattle.refine_calls.specs.Refinement.{call_on, answers_on, round_after, Bytes, bytes_after}
use Rattle.refine_frames.specs.Frames.{steps_made, commits_written, ended_by, step_calls, committing, put_all}
use Rattle.refine_lists.specs.Lists.{SheetTurn, Compiles, on_bytes, AllMean, fresh_round_on, Prepared}

-- ---- what a delivery's answer tells: 0 of `ended_by` is a refusal

abbrev pub delivery_steps : ℕ → ℕ
delivery_steps v = pick (eqb (ended_by v) 0) 0 (steps_made v)

-- the calls that it is
abbrev pub delivery_calls : ℕ → ℕ → ℕ → List Call
delivery_calls v e who = step_calls (delivery_steps v) ++ pick (eqb (ended_by v) delivered_now) (arrive e who ∷ []) []

-- a delivery of entry `number`, event e of player who, with the answer v, that leaves the round l' and the commits b'
pub record DeliveryIs (t l : List ℕ) (number e who : ℕ) (b : List ℕ) (v : ℕ) (l' b' : List ℕ) : Type 0 where
  pub one_of : ended_by v ≤ broken_off
  -- "Refused ..; and then nothing is changed."
  pub refused : ended_by v ≡ 0 → (l' ≡ l) × (b' ≡ b)
  -- "With a full hand and under eight bytes for commits it makes no step, takes nothing in and says so."
  pub no_room : ended_by v ≡ no_commit_room → (length b < 8) × (l' ≡ l) × (b' ≡ b)
  -- "On bytes that no list of demand 3 leaves, a step on the way may be refused by 14: it ends there and says so"
  pub broken : ended_by v ≡ broken_off → (call_on t step l').0 ≡ 14
  -- "then it takes the event in, under this number": the arrival is not refused, and that many were taken in before it
  pub taken_in : ended_by v ≡ delivered_now
      → ((call_on t (arrive e who) (round_after t (step_calls (delivery_steps v)) l)).0 ≡ 0)
      × (taken (round_after t (step_calls (delivery_steps v)) l) ≡ number)
  pub round : l' ≡ round_after t (delivery_calls v e who) l
  -- each of these steps is made, and "at most one [commit] is written, eight bytes, as by `frame`"
  pub made : All (λ a. (a ≢ kinds.idle) × (a ≢ 14)) (answers_on t (step_calls (delivery_steps v)) l)
  pub written : b' ≡ put_all b 0 (committing (answers_on t (step_calls (delivery_steps v)) l))
  pub count : ended_by v ≢ 0 → commits_written v ≡ length (committing (answers_on t (step_calls (delivery_steps v)) l))
  pub one : length (committing (answers_on t (step_calls (delivery_steps v)) l)) ≤ 1

abbrev pub EveryDelivery : Type 0
EveryDelivery = (t l : List ℕ) (number e who : ℕ) (b : List ℕ)
    → DeliveryIs t l number e who b (deliver_on t l number e who b).0 (deliver_on t l number e who b).1 (deliver_on t l number e who b).2

-- a delivery after a list of calls leaves the round that the list with its calls leaves: a consequence, since a list's
-- calls are made one after the other
abbrev pub DeliverInList : Type 0
DeliverInList = (t l : List ℕ) (cs : List Call) (n e who : ℕ) (b : List ℕ)
    → (deliver_on t (round_after t cs l) n e who b).1 ≡ round_after t (cs ++ delivery_calls (deliver_on t (round_after t cs l) n e who b).0 e who) l

-- ---- on demand 3's lists, changes of sheets included

-- entry n is delivered to the bytes b: it is taken in, within so many steps
abbrev pub TakesIn : Bytes → ℕ → ℕ → ℕ → List ℕ → ℕ → Type 0
TakesIn b n e who commits most =
    (ended_by (deliver_on b.table b.round n e who commits).0 ≡ delivered_now)
    × (delivery_steps (deliver_on b.table b.round n e who commits).0 ≤ most)

-- "on them it makes at most 3L/2 steps, rounded down, L as in 01"
abbrev pub AlwaysTakenIn : Type 0
AlwaysTakenIn =
    (s ps t₀ l₀ : List ℕ) (x : Sheet) → Prepared s ps t₀ l₀ x → (xs : List SheetTurn) → All Compiles xs → (ts : List Turn) → AllMean xs ts
    → (e who : ℕ) (commits : List ℕ) → e < events (program_after (program_of ps x) ts) → who < 8 → may_send (program_after (program_of ps x) ts) who e ≡ true
    → number (engine_after (program_of ps x) ts) < 1000000 → 8 ≤ length commits
    → TakesIn (bytes_after (map on_bytes xs) (fresh_round_on s ps t₀ l₀)) (number (engine_after (program_of ps x) ts)) e who commits
    (longest (program_after (program_of ps x) ts) * 3 / 2)
