-- What preview reads, for all bytes (layout: crate format_layout). 02, M-101: the value that the board would show after
-- an arrival and everything in hand had been run to idle on a copy of the round. A function that branches takes plain
-- numbers; one that reads calls it.
use Rattle.std.specs.Prelude.{ℕ, zero, suc, ◌+◌, ◌*◌, Bool, true, List, length, take, ltb, leb, eqb}
use Rattle.lib_base.specs.Basics.{pick}
use Rattle.lib_word.specs.Word.{get}
use Rattle.spec_language.specs.Refusals as refusals
use Rattle.spec_language.specs.Rights.{may}
use Rattle.format_layout.specs.Layout.{event_count, behaviour_count, viewers_at, waiting_count, running_flag}
use Rattle.format_layout.specs.Round.{CallResult}
use Rattle.run_arrive.specs.Arrivals.{arrive_on}
use Rattle.run_step.specs.Machine.{step_on}
use Rattle.run_forecast.specs.Steps.{longest_in}

-- ---- to idle

-- a step that answers a is the last: idle, or refused
unfoldable pub last_step : ℕ → Bool
last_step a = pick (eqb a 0) true (eqb a refusals.foreign)

-- at most n steps, until one is the last; 14 where none of them was
unfoldable pub to_idle : List ℕ → ℕ → List ℕ → CallResult
to_idle t zero l = (refusals.foreign, l)
to_idle t (suc n) l = pick (last_step (step_on t l).0) (step_on t l) (to_idle t n (step_on t l).1)

-- 01's count, "(k + 1) × (L + 1) steps .., k being the number in hand": n wait; f: one runs
unfoldable pub in_hand : ℕ → ℕ → ℕ
in_hand n f = pick (eqb f 0) n (n + 1)

unfoldable pub preview_steps : List ℕ → List ℕ → ℕ
preview_steps t l = (in_hand (waiting_count l) (running_flag l) + 1) * (longest_in t (event_count t) + 1)

-- ---- the preview. The answer is the refusal's number, or 2 ^ 32 and the value.

-- the last step answered a, and the behaviour's value is then v
unfoldable pub preview_answer : ℕ → ℕ → ℕ
preview_answer a v = pick (eqb a 0) (4294967296 + v) refusals.foreign

unfoldable pub shown_in : CallResult → ℕ → ℕ
shown_in r i = preview_answer r.0 (get r.1 (136 + i))

-- "then by 18, and last by 14 where a step on the copy would be or 01's count runs out": the count's steps, and one
-- more that answers idle 02, M-107: "A preview needs both rights", 25 "after 18 for a behaviour"
unfoldable pub preview_seen : List ℕ → List ℕ → ℕ → Bool → ℕ
preview_seen t l i right = pick right (shown_in (to_idle t (preview_steps t l + 1) l) i) refusals.no_right

unfoldable pub preview_taken : List ℕ → List ℕ → ℕ → ℕ → ℕ
preview_taken t l i who = pick (leb (behaviour_count t) i) refusals.no_behaviour (preview_seen t l i (may (viewers_at t i) who))

-- "It is turned down as the arrival would be": r is the arrival's answer, and the copy after it
unfoldable pub preview_after : List ℕ → CallResult → ℕ → ℕ → ℕ
preview_after t r i who = pick (eqb r.0 0) (preview_taken t r.1 i who) r.0

unfoldable pub preview_copy : List ℕ → List ℕ → ℕ → ℕ → ℕ → ℕ
preview_copy t l e i who = preview_after t (arrive_on t l e who) i who

-- "It equals doing so on a copy": of the round's 2,048 bytes
unfoldable pub preview_on : List ℕ → List ℕ → ℕ → ℕ → ℕ → ℕ
preview_on t l e i who = pick (ltb (length l) 2048) refusals.foreign (preview_copy t (take 2048 l) e i who)
