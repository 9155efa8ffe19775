-- Where a round stands for an engine of the model, an entry in its place that is declared and allowed is taken in: none
-- of the refusals fits, a step is never refused there, and the steps to the next commit are few.
use Rattle.lib_base.proofs.Prelude.{ℕ, ◌≤◌, ◌<◌, ◌+◌, ◌-◌, suc, zero, ◌*◌, ◌/◌, ◌≡◌, refl, ◌∙◌, sym, true, true≢false}
use Rattle.lib_base.proofs.Prelude.{◌≢◌, ◌⊎◌, ⊎_elim, List, map, length, le-ltb, arith}
use Rattle.lib_base.proofs.Tools.{by_test}
use Rattle.spec_language.specs.Code.{code, members}
use Rattle.spec_language.specs.Dependence.{events}
use Rattle.spec_language.specs.Rights.{may, may_send}
use Rattle.spec_language.specs.Syntax.{Program}
use Rattle.spec_execution.specs.CodeFacts.{CodeFacts}
use Rattle.spec_execution.proofs.CodeRight.{code_facts}
use Rattle.spec_model.specs.Model.{engine, step, call, State, state, act}
use Rattle.spec_model.specs.Claims.{longest, number, in_force, engine_in, after}
use Rattle.spec_model.proofs.IdleWithin.{longest_most}
use Rattle.format_layout.specs.Layout.{event_count, senders_at, taken, waiting_count, running_flag, event_word}
use Rattle.format_layout.specs.Foreign.{ours}
use Rattle.back_compile.specs.Compiled.{program_of}
use Rattle.run_arrive.specs.Arrivals.{queue_full}
use Rattle.run_step.specs.Machine.{step_on}
use Rattle.run_burst.specs.Burst.{unmade, Burst, burst_on}
use Rattle.run_burst.specs.Commit.{is_commit}
use Rattle.run_deliver.specs.Deliver.{delivery_refusal, deliver_after, deliver_full, deliver_known, deliver_with, deliver_on}
use Rattle.run_deliver.specs.Delivery.{Delivery}
use Rattle.run_deliver.proofs.Laws.{no_refusal}
use Rattle.run_deliver.proofs.Room.{full_ends}
use Rattle.refine_calls.specs.Refinement.{call_on, calls, Bytes, bytes, turn_on_bytes, bytes_after}
use Rattle.refine_calls.proofs.Coded.{answer_to_law, foreign_apart}
use Rattle.refine_calls.proofs.Agrees.{ours_is}
use Rattle.refine_calls.proofs.TurnsRefine.{Stand, turned}
use Rattle.refine_frames.specs.Frames.{steps_made, ended_by}
use Rattle.refine_lists.specs.Lists.{on_bytes, fresh_round_on}
use Rattle.refine_lists.proofs.Standing.{stepped}
use Rattle.refine_lists.proofs.FromSheets.{stands_after}
use Rattle.refine_deliver.specs.Deliveries.{delivery_steps, TakesIn, AlwaysTakenIn}
use Rattle.refine_deliver.proofs.Bound.{few_steps}

-- ---- a step is never refused

step_accepted : (l₀ : List ℕ) (b : Bytes) (s : State) → Stand l₀ b s → (step_on b.table b.round).0 ≢ 14
step_accepted l₀ b (state p w) h e =
    foreign_apart (act p step w).answer (answer_to_law p (omega (arith, h.says.few_events)) step w h.fit.1) (sym (stepped l₀ b (state p w) h) ∙ e)

burst_accepted : (l₀ t : List ℕ) (k : ℕ) (l : List ℕ) (s : State) → Stand l₀ (bytes t l) s → (burst_on t k l).0 ≢ 14
unfolding burst_on turn_on_bytes call_on
burst_accepted l₀ t zero l s h = λ e. omega arith
burst_accepted l₀ t (suc k) l s h =
    let a = (step_on t l).0 in
    let P : Burst → Type 0 = λ o. o.0 ≢ 14 in
    by_test P (unmade a) (λ _. step_accepted l₀ (bytes t l) s h)
    (λ _. by_test P (is_commit a) (λ _. step_accepted l₀ (bytes t l) s h)
    (λ _. burst_accepted l₀ t k (step_on t l).1 _ (turned l₀ (bytes t l) (calls step) s (call step) refl h).stand))

-- ---- what the table says of its events

module _ (p : Program) (t : List ℕ) (facts : CodeFacts p) (known : event_count t ≡ events p)
    (lengths : (e : ℕ) → e < events p → event_word t e 2 ≡ length (code p e)) (in_C : (e : ℕ) → e < events p → event_word t e 3 ≡ members p e) where
  fits : (e : ℕ) → e < event_count t → (event_word t e 3 * 2 + 4 ≤ event_word t e 2) × (event_word t e 2 ≤ longest p)
  fits e h =
      let d : e < events p = rw known at h in
      rw (lengths e d, in_C e d) (omega (arith, facts.long e d), longest_most p e d)

-- ---- an entry in its place

said_one : (r w : ℕ) → r ≤ 8192 → w ≤ 1 → (ended_by (1 * 72057594037927936 + w * 4294967296 + r) ≡ 1) × (steps_made (1 * 72057594037927936 + w * 4294967296 + r) ≡ r)
said_one r w a b = (omega arith, omega arith)

module _ (l₀ t l : List ℕ) (p : Program) (s : State) (is : in_force s ≡ p) (h : Stand l₀ (bytes t l) s) (e who n : ℕ) (commits : List ℕ)
    (valid : ours t l ≡ true) (free : delivery_refusal (taken l) (event_count t) (senders_at t e) n e who ≡ 0) (room : 8 ≤ length commits) (most : ℕ)
    (few : queue_full (waiting_count l) (running_flag l) ≡ true → 8192 - (burst_on t 8192 l).1 ≤ most) where
  abbrev P : Delivery → Type 0
  P o = (ended_by o.0 ≡ 1) × (delivery_steps o.0 ≤ most)

  told : (r w : ℕ) → r ≤ 8192 → w ≤ 1 → r ≤ most → (ended_by (1 * 72057594037927936 + w * 4294967296 + r) ≡ 1) × (delivery_steps (1 * 72057594037927936 + w * 4294967296 + r) ≤ most)
  told r w a b c = let k = said_one r w a b in (k.0, rw (k.0, k.1) c)

  takes : P (deliver_on t l n e who commits)
  unfolding deliver_on deliver_with deliver_known deliver_full deliver_after
  takes =
      rw (valid, free)
      (by_test P (queue_full (waiting_count l) (running_flag l))
      (λ q.
      rw (le-ltb (length commits) 8 room)
      (by_test P (is_commit (burst_on t 8192 l).0) (λ _. told (8192 - (burst_on t 8192 l).1) 1 (omega arith) (omega arith) (few q))
      (λ c. absurd (⊎_elim (λ y. true≢false (sym y ∙ c)) (burst_accepted l₀ t 8192 l s h) (full_ends t l valid q)))))
      (λ _. told 0 0 (omega arith) (omega arith) (omega arith)))

pub stand_takes : (l₀ : List ℕ) (b : Bytes) (s : State) → Stand l₀ b s → (e who : ℕ) (commits : List ℕ) → e < events (in_force s) → who < 8
    → may_send (in_force s) who e ≡ true → number (engine_in s) < 1000000 → 8 ≤ length commits
    → TakesIn b (number (engine_in s)) e who commits (longest (in_force s) * 3 / 2)
stand_takes l₀ b (state p (engine k q r d)) h e who commits declared eight right few room =
    let t = b.table in
    let l = b.round in
    let facts = code_facts p h.fit.0 in
    let known : event_count t ≡ events p = h.says.event_count_law in
    let at : taken l ≡ k = h.alike.number in
    let valid = ours_is p h.fit.0 t h.says l k q r d h.alike h.fit.1 in
    let right' : may (senders_at t e) who ≡ true = rw (h.says.senders e declared) right in
    let free = sym (no_refusal (taken l) (event_count t) (senders_at t e) k e who (omega arith) (omega arith) eight (rw known declared) right' few) in
    let some : 4 ≤ longest p = omega (arith, facts.long e declared, longest_most p e declared) in
    takes l₀ t l p (state p (engine k q r d)) refl h e who k commits valid free room (longest p * 3 / 2)
    (few_steps t (longest p) (fits p t facts known h.says.lengths h.says.in_C) l some valid)

pub always_taken_in : AlwaysTakenIn
always_taken_in s ps t₀ l₀ x r xs k ts m e who commits =
    stand_takes l₀ (bytes_after (map on_bytes xs) (fresh_round_on s ps t₀ l₀)) (after (program_of ps x) ts) (stands_after s ps t₀ l₀ x r xs k ts m) e who commits
