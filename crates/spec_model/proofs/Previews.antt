-- A preview is the value on the board whichever way the round is run to idle: calls that take nothing in act as their
-- steps alone, idle stays, and idle comes within 01's count.
use Rattle.lib_base.proofs.Prelude.{ℕ, ◌≤◌, ◌<◌, ◌+◌, ◌-◌, suc, zero, ◌≡◌, refl, ◌∙◌, sym, ap, subst, true, by_cases}
use Rattle.lib_base.proofs.Prelude.{List, [], ◌∷◌, replicate, dec_lt, lt-leb, arith}
use Rattle.spec_language.specs.Syntax.{Program}
use Rattle.spec_language.specs.Dependence.{size}
use Rattle.spec_language.specs.Rights.{may_see}
use Rattle.spec_semantics.specs.Meaning.{at}
use Rattle.spec_execution.specs.CodeFacts.{CodeFacts}
use Rattle.spec_model.specs.Model.{rest, busy, Engine, engine, Call, arrive, step, board, Answer, told_taken_in, shows, act, run}
use Rattle.spec_model.specs.Claims.{number, store_of, after, count_in, foreseen}
use Rattle.spec_model.proofs.States.{Idle}
use Rattle.spec_model.proofs.Moves.{Effect, Cases, effect, act_by}
use Rattle.spec_model.proofs.Reached.{Reached, act_keeps}
use Rattle.spec_model.proofs.Calls.{counted, act_number, act_grows, run_grows, step_count}
use Rattle.spec_model.proofs.Once.{idle_empty}
use Rattle.spec_model.proofs.IdleWithin.{idle_from}

abbrev pub only_steps : ℕ → List Call
only_steps n = replicate n step

abbrev IsStep : Call → Type 0
IsStep (arrive e who) = ⊥
IsStep step = Unit {0}
IsStep (board i who) = ⊥

module _ (p : Program) where
  -- ---- calls that take nothing in

  -- a step takes nothing in; any other call that takes nothing in changes nothing
  abbrev Still : Call → Engine → Effect → Engine → Type 0
  Still c w x v = (IsStep c → number v ≡ number w) × ((IsStep c → ⊥) → number v ≡ number w → v ≡ w)

  still : Cases p Still
  still = record {
    refuses = λ e who w. (λ s. refl, λ s z. refl);
    takes = λ e who t waiting r d k eight m n. (λ s. absurd s, λ s z. absurd (omega arith));
    reads = λ i who w. (λ s. refl, λ s z. refl);
    idles = λ t d. (λ s. refl, λ s z. refl);
    starts = λ t b l d. (λ s. refl, λ s z. absurd (s tt));
    preempts = λ t b l a n d u o. (λ s. refl, λ s z. absurd (s tt));
    runs = λ t waiting a n d k u. (λ s. refl, λ s z. absurd (s tt));
    commits = λ t waiting a n d k u. (λ s. refl, λ s z. absurd (s tt));
  }

  as_steps : (ds : List Call) (w : Engine) → number (run p ds w) ≡ number w → run p ds w ≡ run p (only_steps (step_count ds)) w
  unfolding run step_count
  as_steps [] w h = refl
  as_steps (step ∷ ds) w h = as_steps ds (act p step w).after (h ∙ sym ((act_by p Still still step w).0 tt))
  as_steps (arrive e who ∷ ds) w h =
      let v : Engine = (act p (arrive e who) w).after in
      let a : number w ≤ number v = act_grows p (arrive e who) w in
      let b : number v ≤ number (run p ds v) = run_grows p ds v in
      let same : number v ≡ number w = omega arith in
      as_steps ds v (h ∙ sym same) ∙ ap (run p (only_steps (step_count ds))) ((act_by p Still still (arrive e who) w).1 (λ s. s) same)
  as_steps (board i who ∷ ds) w h =
      let v : Engine = (act p (board i who) w).after in
      let a : number w ≤ number v = act_grows p (board i who) w in
      let b : number v ≤ number (run p ds v) = run_grows p ds v in
      let same : number v ≡ number w = omega arith in
      as_steps ds v (h ∙ sym same) ∙ ap (run p (only_steps (step_count ds))) ((act_by p Still still (board i who) w).1 (λ s. s) same)

  none_taken : (n : ℕ) (w : Engine) → number (run p (only_steps n) w) ≡ number w
  unfolding run
  none_taken zero w = refl
  none_taken (suc n) w = none_taken n (act p step w).after ∙ (act_by p Still still step w).0 tt

  count_steps : (n : ℕ) → step_count (only_steps n) ≡ n
  unfolding step_count
  count_steps zero = refl
  count_steps (suc n) = ap suc (count_steps n)

  -- ---- idle stays

  pub idle_stays : (w : Engine) → Idle p w → (act p step w).after ≡ w
  unfolding act
  idle_stays (engine t [] rest d) h = refl
  idle_stays (engine t (b ∷ l) rest d) h = cc
  idle_stays (engine t waiting (busy a c) d) h =
      let z : ◌≡◌ {A = ℕ} 1 0 = cc (idle_empty p (engine t waiting (busy a c) d) h) in absurd (omega arith)

  pub idle_steps : (n : ℕ) (w : Engine) → Idle p w → run p (only_steps n) w ≡ w
  unfolding run
  idle_steps zero w h = refl
  idle_steps (suc n) w h = ap (run p (only_steps n)) (idle_stays w h) ∙ idle_steps n w h

  steps_add : (m n : ℕ) (w : Engine) → run p (only_steps (m + n)) w ≡ run p (only_steps n) (run p (only_steps m) w)
  unfolding run
  steps_add zero n w = let z : 0 + n ≡ n = omega arith in rw z
  steps_add (suc m) n w = let z : suc m + n ≡ suc (m + n) = omega arith in rw z (steps_add m n (act p step w).after)

  longer : (m n : ℕ) (w : Engine) → m ≤ n → Idle p (run p (only_steps m) w) → run p (only_steps m) w ≡ run p (only_steps n) w
  longer m n w b h =
      let z : n ≡ m + (n - m) = omega arith in
      let q : run p (only_steps (m + (n - m))) w ≡ run p (only_steps m) w = steps_add m (n - m) w ∙ idle_steps (n - m) (run p (only_steps m) w) h in
      sym q ∙ ap (λ (k : ℕ). run p (only_steps k) w) (sym z)

  -- idle after m steps and after n: the same engine
  one_idle : (m n : ℕ) (w : Engine) → Idle p (run p (only_steps m) w) → Idle p (run p (only_steps n) w) → run p (only_steps m) w ≡ run p (only_steps n) w
  one_idle m n w h g = by_cases (dec_lt m n) (λ b. longer m n w (omega arith) h) (λ b. sym (longer n m w (omega arith) g))

  module _ (facts : CodeFacts p) where
    -- ---- 01's count is enough

    pub idle_within : (w : Engine) → Reached p w → Idle p (run p (only_steps (count_in p w)) w)
    idle_within w r =
        idle_from p facts w r (only_steps (count_in p w)) (none_taken (count_in p w) w) (omega (arith, count_steps (count_in p w)))

    pub preview_from : (w : Engine) → Reached p w → (e i who : ℕ) (ds : List Call) → i < size p → may_see p who i ≡ true
        → (act p (arrive e who) w).answer ≡ told_taken_in
        → number (run p (arrive e who ∷ ds) w) ≡ number w + 1
        → Idle p (run p (arrive e who ∷ ds) w)
        → foreseen p w e i who ≡ shows (at (store_of (run p (arrive e who ∷ ds) w)) i)
    unfolding run
    preview_from w r e i who ds b sees t h g =
        let v : Engine = (act p (arrive e who) w).after in
        let one : number v ≡ number w + 1 =
        act_number p (arrive e who) w ∙ ap (λ (a : Answer). counted (effect (arrive e who) a (number w)) (number w)) t in
        let k : run p ds v ≡ run p (only_steps (step_count ds)) v = as_steps ds v (h ∙ sym one) in
        let quiet : Idle p (run p (only_steps (count_in p v)) v) = idle_within v (act_keeps p facts (arrive e who) w r) in
        let same = one_idle (count_in p v) (step_count ds) v quiet (subst (Idle p) k g) in
        rw (lt-leb (size p) i b, sees) (ap (λ (u : Engine). shows (at (store_of u) i)) (same ∙ sym k))
