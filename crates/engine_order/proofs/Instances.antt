-- Instances of the claims' hypotheses at their bounds: an order of 1,000,000 entries, its last entry delivered with
-- eight bytes for a commit, a frame of 4,294,967,295 steps, a change to a table of 34,816 bytes. Each is the claim
-- applied, so that one whose hypothesis was narrowed does not fit. And of a phone with five of six entries taken in:
-- the sixth is taken in within 3L/2 steps.
use Rattle.lib_base.proofs.Prelude.{ℕ, ◌≤◌, ◌<◌, ◌*◌, ◌/◌, ◌≡◌, refl, true, List, [], ◌∷◌, length, get_or, arith}
use Rattle.lib_base.specs.Basics.{All}
use Rattle.spec_language.specs.Sheet.{Sheet}
use Rattle.spec_language.specs.Syntax.{Program}
use Rattle.spec_language.specs.Dependence.{events}
use Rattle.spec_language.specs.Rights.{may_send}
use Rattle.spec_model.specs.Model.{Arrival}
use Rattle.spec_model.specs.Claims.{longest, program_after}
use Rattle.back_compile.specs.Compiled.{program_of}
use Rattle.back_compile.specs.Verdict.{compile_on}
use Rattle.refine_calls.specs.Refinement.{Bytes}
use Rattle.refine_deliver.specs.Deliveries.{TakesIn}
use Rattle.run_deliver.specs.Deliver.{deliver_on, taken_on}
use Rattle.refine_lists.specs.Lists.{board_of, IdleNow, fresh_round_on, Prepared, TwoRounds}
use Rattle.engine_order.specs.Orders.{EventOrder, entry_event, entry_player, first_entries, AppCall, delivers, frames, steps, reads, Offered, app_after, taken_now, OnePhone, EveryPhone, TwoPhonesWhere}
use Rattle.engine_order.specs.Changes.{SheetChange, Acceptable, AppTurn, alters, ByPlan, turns_after, outcome_of, ChangedPhone, ChangedAlike, SharedOrderChanged}
use Rattle.engine_order.specs.Remedies.{PatientApp, PatientPhones}
use Rattle.engine_order.specs.SameTables.{SameTables}

-- the last entry of the longest order, the longest frame, a step, and a reading of no behaviour by no player
abbrev calls_of_law : List ℕ → List AppCall
calls_of_law b = delivers 999999 b ∷ frames 4294967295 b ∷ steps ∷ reads 64 8 ∷ []

offered : (order : EventOrder) → length order ≡ 1000000 → (b : List ℕ) → length b ≡ 8 → All (Offered order) (calls_of_law b)
offered order n b m = ((omega arith, omega arith), (omega arith, (tt, (tt, tt))))

longest_order : EveryPhone → (s ps t₀ l₀ : List ℕ) (x : Sheet) → Prepared s ps t₀ l₀ x → (order : EventOrder) → length order ≡ 1000000
    → (b : List ℕ) → length b ≡ 8 → OnePhone (program_of ps x) (fresh_round_on s ps t₀ l₀) order (app_after order (calls_of_law b) (fresh_round_on s ps t₀ l₀))
longest_order h s ps t₀ l₀ x p order n b m = h s ps t₀ l₀ x p order (omega arith) (calls_of_law b) (offered order n b m)

-- two phones that share it, whatever the condition
two_of_the_longest : (C : List ℕ → List ℕ → Program → List Arrival → Type 0) → TwoPhonesWhere C
    → (s ps qs t₀ l₀ t₁ l₁ : List ℕ) (x : Sheet) → TwoRounds s ps qs t₀ l₀ t₁ l₁ x → (order : EventOrder) → length order ≡ 1000000
    → (b c : List ℕ) → length b ≡ 8 → length c ≡ 8
    → taken_now (app_after order (calls_of_law b) (fresh_round_on s ps t₀ l₀)) ≡ taken_now (app_after order (calls_of_law c) (fresh_round_on s qs t₁ l₁))
    → C s ps (program_of ps x) (first_entries (taken_now (app_after order (calls_of_law b) (fresh_round_on s ps t₀ l₀))) order)
    → IdleNow (app_after order (calls_of_law b) (fresh_round_on s ps t₀ l₀)) → IdleNow (app_after order (calls_of_law c) (fresh_round_on s qs t₁ l₁))
    → board_of (program_of ps x) (app_after order (calls_of_law b) (fresh_round_on s ps t₀ l₀)).round ≡ board_of (program_of ps x) (app_after order (calls_of_law c) (fresh_round_on s qs t₁ l₁)).round
two_of_the_longest C h s ps qs t₀ l₀ t₁ l₁ x r order n b c m k = h s ps qs t₀ l₀ t₁ l₁ x r order (omega arith) (calls_of_law b) (calls_of_law c) (offered order n b m) (offered order n c k)

two_patient_ones : PatientPhones
    → (s ps qs t₀ l₀ t₁ l₁ : List ℕ) (x : Sheet) → TwoRounds s ps qs t₀ l₀ t₁ l₁ x → (order : EventOrder) → length order ≡ 1000000
    → (b c : List ℕ) → length b ≡ 8 → length c ≡ 8 → PatientApp order (calls_of_law b) (fresh_round_on s ps t₀ l₀) → PatientApp order (calls_of_law c) (fresh_round_on s qs t₁ l₁)
    → taken_now (app_after order (calls_of_law b) (fresh_round_on s ps t₀ l₀)) ≡ taken_now (app_after order (calls_of_law c) (fresh_round_on s qs t₁ l₁))
    → IdleNow (app_after order (calls_of_law b) (fresh_round_on s ps t₀ l₀)) → IdleNow (app_after order (calls_of_law c) (fresh_round_on s qs t₁ l₁))
    → board_of (program_of ps x) (app_after order (calls_of_law b) (fresh_round_on s ps t₀ l₀)).round ≡ board_of (program_of ps x) (app_after order (calls_of_law c) (fresh_round_on s qs t₁ l₁)).round
two_patient_ones h s ps qs t₀ l₀ t₁ l₁ x r order n b c m k = h s ps qs t₀ l₀ t₁ l₁ x r order (omega arith) (calls_of_law b) (calls_of_law c) (offered order n b m) (offered order n c k)

-- a change on an idle round with as many taken in as the plan says, to a table that has just room
by_plan : (order : EventOrder) (c : SheetChange) (u : List ℕ) (b : Bytes) → length u ≡ 34816 → IdleNow b → taken_now b ≡ c.at → ByPlan order (c ∷ []) (alters c u ∷ []) b
by_plan order c u b h i n = (refl, omega arith, i, n, tt)

with_a_change : SharedOrderChanged → (s ps t₀ l₀ : List ℕ) (x : Sheet) → Prepared s ps t₀ l₀ x → (order : EventOrder) → length order ≡ 1000000
    → (c : SheetChange) → Acceptable c → (u : List ℕ) → length u ≡ 34816 → IdleNow (fresh_round_on s ps t₀ l₀) → taken_now (fresh_round_on s ps t₀ l₀) ≡ c.at
    → ChangedPhone (program_of ps x) (fresh_round_on s ps t₀ l₀) order (alters c u ∷ []) (turns_after order (alters c u ∷ []) (fresh_round_on s ps t₀ l₀))
with_a_change h s ps t₀ l₀ x p order n c a u m i k =
    h.one s ps t₀ l₀ x p order (omega arith) (c ∷ []) (a, tt) (alters c u ∷ []) (by_plan order c u (fresh_round_on s ps t₀ l₀) m i k)

-- how a delivery ended, as its number says: taken in, after 17 steps; refused by 44
outcomes : (outcome_of 72057598332895249 ≡ (1, 0)) × (outcome_of 44 ≡ (0, 44))
outcomes = (refl, refl)

-- a table's last byte
last_byte : SameTables → (s ps t u : List ℕ) → All (λ b. b < 256) s → All (λ b. b < 256) ps → (compile_on s ps t).0 ≡ 0 → (compile_on s ps u).0 ≡ 0
    → get_or (compile_on s ps t).1 34815 0 ≡ get_or (compile_on s ps u).1 34815 0
last_byte h s ps t u a b c d = h s ps t u a b c d 34815 (omega arith)

-- the sixth entry, of player 7, with eight bytes lent
sixth : (p : Program) (first : Bytes) (order : EventOrder) (b : Bytes) → OnePhone p first order b → length order ≡ 6 → taken_now b ≡ 5
    → entry_event order (taken_now b) < events p → entry_player order (taken_now b) ≡ 7 → may_send p (entry_player order (taken_now b)) (entry_event order (taken_now b)) ≡ true
    → (c : List ℕ) → length c ≡ 8 → TakesIn b (taken_now b) (entry_event order (taken_now b)) (entry_player order (taken_now b)) c (longest p * 3 / 2)
sixth p first order b o n k e w m c h = o.next (omega arith) e (omega arith) m c (omega arith)

-- the same after a change
sixth_changed : (p : Program) (first : Bytes) (order : EventOrder) (xs : List AppTurn) (b : Bytes) → (o : ChangedPhone p first order xs b) → length order ≡ 6 → taken_now b ≡ 5
    → entry_event order (taken_now b) < events (program_after p o.means) → entry_player order (taken_now b) ≡ 7
    → may_send (program_after p o.means) (entry_player order (taken_now b)) (entry_event order (taken_now b)) ≡ true
    → (c : List ℕ) → length c ≡ 8 → TakesIn b (taken_now b) (entry_event order (taken_now b)) (entry_player order (taken_now b)) c (longest (program_after p o.means) * 3 / 2)
sixth_changed p first order xs b o n k e w m c h = o.next (omega arith) e (omega arith) m c (omega arith)

-- no more is taken in than the order has
at_most_six : (p : Program) (first : Bytes) (order : EventOrder) (b : Bytes) → OnePhone p first order b → length order ≡ 6 → taken_now b ≤ 6
at_most_six p first order b o n = omega (arith, o.within)

-- deliveries with eight bytes lent end alike
alike : (a b : Bytes) → ChangedAlike a b → (n e who : ℕ) (c d : List ℕ) → length c ≡ 8 → length d ≡ 8
    → outcome_of (deliver_on a.table a.round n e who c).0 ≡ outcome_of (deliver_on b.table b.round n e who d).0
alike a b h n e who c d x y = h.deliveries n e who c d (omega arith) (omega arith)

-- what `taken` tells where five are taken in and three of them in hand
five_of_them : (b : Bytes) → taken_on b.table b.round ≡ 3302829850629 → taken_now b ≡ 5
five_of_them b h = rw h
