-- What the bytes say where the table in force says the program in force and the round stands for the engine: the board,
-- the step called next, a forecast and a preview. Each call agrees.
use Rattle.lib_base.proofs.Prelude.{ℕ, ◌≤◌, ◌+◌, ◌≡◌, refl, ◌∙◌, sym, ap, subst, false, Bool, ◌≢◌, List, [], ◌∷◌, map}
use Rattle.lib_base.proofs.Prelude.{zip_with, arith}
use Rattle.lib_base.proofs.Tools.{by_test}
use Rattle.spec_language.specs.Syntax.{Program}
use Rattle.spec_language.specs.Dependence.{events}
use Rattle.spec_model.specs.Model.{Arrival, engine, queue, Call, step, idle, committed, in_copy_back, act, Turn, call, change, State, state, says, TurnOutcome, declared_in, turn, replies}
use Rattle.spec_model.specs.Claims.{forecast, foreseen, in_force, engine_in, IdleIn}
use Rattle.spec_model.proofs.States.{store_in}
use Rattle.spec_model.specs.Told.{previewed}
use Rattle.run_arrive.specs.Arrivals.{arrive_on}
use Rattle.run_step.specs.Machine.{step_on}
use Rattle.run_forecast.specs.Forecast.{forecast_on}
use Rattle.run_preview.specs.Preview.{preview_on}
use Rattle.refine_calls.specs.Refinement.{coded, decoded, told_on, call_on, coded_reply, ByteTurn, calls, mends, Bytes, turn_on_bytes}
use Rattle.refine_calls.specs.Turns.{IsTurn, AreTurns}
use Rattle.refine_calls.proofs.Coded.{ToStep, answer_to_law, decoded_coded, coded_injective, commit_told, other_told}
use Rattle.refine_calls.proofs.Agrees.{call_agrees}
use Rattle.refine_calls.proofs.Forecasts.{forecast_agrees}
use Rattle.refine_calls.proofs.Previews.{preview_taken_law, preview_agrees}
use Rattle.refine_calls.proofs.TurnsRefine.{Stand, turned}
use Rattle.refine_lists.specs.Lists.{board_of, IdleNow, decoded_reply}

few_of : (l₀ : List ℕ) (b : Bytes) (s : State) → Stand l₀ b s → events (in_force s) ≤ 256
few_of l₀ b s h = omega (arith, h.says.few_events)

pub board_of_law : (l₀ : List ℕ) (b : Bytes) (s : State) → Stand l₀ b s → board_of (in_force s) b.round ≡ store_in s
board_of_law l₀ b (state p (engine k q r d)) h = h.alike.values.store

-- ---- the step called next

pub stepped : (l₀ : List ℕ) (b : Bytes) (s : State) → Stand l₀ b s → (step_on b.table b.round).0 ≡ coded (act (in_force s) step (engine_in s)).answer
unfolding call_on
stepped l₀ b (state p w) h = (call_agrees p h.fit.0 b.table h.says step b.round w h.alike h.fit.1).answered

pub idle_both : (l₀ : List ℕ) (b : Bytes) (s : State) → Stand l₀ b s → (IdleNow b → IdleIn s) × (IdleIn s → IdleNow b)
idle_both l₀ b (state p w) h =
    let few = few_of l₀ b (state p w) h in
    let said = stepped l₀ b (state p w) h in (
      (λ i. coded_injective step (act p step w).answer idle (answer_to_law p few step w h.fit.1) tt (sym said ∙ i)),
      (λ i. said ∙ ap coded i),
    )

pub next_read : (l₀ : List ℕ) (b : Bytes) (s : State) → Stand l₀ b s → decoded step (step_on b.table b.round).0 ≡ (act (in_force s) step (engine_in s)).answer
next_read l₀ b (state p w) h =
    ap (decoded step) (stepped l₀ b (state p w) h) ∙ decoded_coded step (act p step w).answer (answer_to_law p (few_of l₀ b (state p w) h) step w h.fit.1)

pub commit_told_next : (l₀ : List ℕ) (b : Bytes) (s : State) → Stand l₀ b s → (a : Arrival) (m : Bool)
    → decoded step (step_on b.table b.round).0 ≡ committed a m → told_on (step_on b.table b.round).0 ≡ coded (committed a false)
commit_told_next l₀ b (state p w) h a m e =
    let is : (act p step w).answer ≡ committed a m = sym (next_read l₀ b (state p w) h) ∙ e in
    ap told_on (stepped l₀ b (state p w) h ∙ ap coded is) ∙ commit_told a m (subst ToStep is (answer_to_law p (few_of l₀ b (state p w) h) step w h.fit.1))

pub other_told_next : (l₀ : List ℕ) (b : Bytes) (s : State) → Stand l₀ b s
    → ((a : Arrival) (m : Bool) → decoded step (step_on b.table b.round).0 ≢ committed a m)
    → told_on (step_on b.table b.round).0 ≡ (step_on b.table b.round).0
other_told_next l₀ b (state p w) h c =
    let said = stepped l₀ b (state p w) h in
    ap told_on said
    ∙ other_told (act p step w).answer (answer_to_law p (few_of l₀ b (state p w) h) step w h.fit.1) (λ a m e. c a m (next_read l₀ b (state p w) h ∙ e))
    ∙ sym said

-- ---- a forecast and a preview

pub forecast_of : (l₀ : List ℕ) (b : Bytes) (s : State) → Stand l₀ b s → forecast_on b.table b.round ≡ 4294967296 + forecast (in_force s) (engine_in s)
forecast_of l₀ b (state p w) h = forecast_agrees p h.fit.0 b.table h.says b.round w h.alike h.fit.1

pub foreseen_of : (l₀ : List ℕ) (b : Bytes) (s : State) → Stand l₀ b s → (e i who : ℕ)
    → (arrive_on b.table b.round e who).0 ≡ 0 → preview_on b.table b.round e i who ≡ coded (foreseen (in_force s) (engine_in s) e i who)
foreseen_of l₀ b (state p w) h e i who = preview_taken_law p h.fit.0 b.table h.says b.round w h.alike h.fit.1 e who i

-- both at once, for lemmas
pub previewed_of : (l₀ : List ℕ) (b : Bytes) (s : State) → Stand l₀ b s → (e i who : ℕ)
    → preview_on b.table b.round e i who ≡ coded (previewed (in_force s) (engine_in s) e i who)
previewed_of l₀ b (state p w) h e i who = preview_agrees p h.fit.0 b.table h.says b.round w e i who h.alike h.fit.1

-- ---- the replies are read back from the numbers

change_read : (u : List ℕ) (q : Program) (s : State) → decoded_reply (mends u) (coded_reply (turn (change q) s).reply) ≡ (turn (change q) s).reply
unfolding turn
change_read u q (state p (engine k waiting r d)) =
    let P : TurnOutcome → Type 0 = λ o. decoded_reply (mends u) (coded_reply o.reply) ≡ o.reply in
    by_test P (in_copy_back p r) (λ _. refl) (λ _. by_test P (declared_in q (queue waiting r)) (λ _. refl) (λ _. refl))

one_read : (l₀ : List ℕ) (b : Bytes) (x : ByteTurn) (t : Turn) (s : State) → IsTurn x t → Stand l₀ b s → decoded_reply x (coded_reply (turn t s).reply) ≡ (turn t s).reply
unfolding turn
one_read l₀ b (calls c) (call e) (state p w) m h =
    let few = few_of l₀ b (state p w) h in
    ap (λ (y : Call). says (decoded y (coded (act p e w).answer))) m ∙ ap says (decoded_coded e (act p e w).answer (answer_to_law p few e w h.fit.1))
one_read l₀ b (calls c) (change q) s m h = absurd m
one_read l₀ b (mends u) (call e) s m h = absurd m
one_read l₀ b (mends u) (change q) s m h = change_read u q s

pub all_read : (l₀ : List ℕ) (b : Bytes) (xs : List ByteTurn) (ts : List Turn) (s : State) → AreTurns xs ts → Stand l₀ b s
    → zip_with decoded_reply xs (map coded_reply (replies ts s)) ≡ replies ts s
unfolding zip_with replies
all_read l₀ b [] [] s m h = refl
all_read l₀ b [] (t ∷ ts) s m h = absurd m
all_read l₀ b (x ∷ xs) [] s m h = absurd m
all_read l₀ b (x ∷ xs) (t ∷ ts) s m h =
    let k = all_read l₀ (turn_on_bytes x b).after xs ts (turn t s).after m.1 (turned l₀ b x s t m.0 h).stand in
    λ z. one_read l₀ b x t s m.0 h z ∷ k z
