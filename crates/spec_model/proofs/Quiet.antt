-- From rest, with nothing more taken in, idle comes after exactly the instructions of those in the queue and one start
-- each: what is left falls by one at each step until it is 0, nothing waiting outranking the running one, and idle is
-- exactly where it is 0.
use Rattle.lib_base.proofs.Prelude.{ℕ, ◌≤◌, ◌<◌, ◌+◌, ◌-◌, ◌≡◌, refl, ◌∙◌, sym, ap, List, [], ◌∷◌, List-as-Permᴰ}
use Rattle.lib_base.proofs.Prelude.{List·Permᴰ·trans, List·Permᴰ·cons, List·Permᴰ·swap, List·Permᴰ·nil, sum, length}
use Rattle.lib_base.proofs.Prelude.{arith}
use Rattle.lib_base.specs.Basics.{All}
use Rattle.lib_base.proofs.Tools.{all_perm, all_imp}
use Rattle.spec_language.specs.Syntax.{Program}
use Rattle.spec_language.specs.Code.{code}
use Rattle.spec_execution.specs.CodeFacts.{CodeFacts}
use Rattle.spec_model.specs.Model.{Arrival, rest, busy, Engine, engine, Call, arrive, step, board, rank, choose, act, run}
use Rattle.spec_model.specs.Claims.{number, in_queue, after, steps_of, AtRest}
use Rattle.spec_model.proofs.States.{Idle}
use Rattle.spec_model.proofs.Choice.{Leads, choose_perm, choose_first}
use Rattle.spec_model.proofs.Moves.{Effect, Cases, act_by}
use Rattle.spec_model.proofs.Reached.{Reached, act_keeps, run_keeps}
use Rattle.spec_model.proofs.Calls.{act_grows, run_grows, step_count}
use Rattle.spec_model.proofs.Once.{idle_empty}

module _ (p : Program) where
  -- ---- the steps of arrivals in any order

  pub steps_perm : {l m : List Arrival} → List-as-Permᴰ l m → steps_of p l ≡ steps_of p m
  unfolding steps_of sum
  steps_perm List·Permᴰ·nil = refl
  steps_perm (List·Permᴰ·cons e d) = rw (e, steps_perm d)
  steps_perm (List·Permᴰ·swap e f) = rw (e, f) (omega arith)
  steps_perm (List·Permᴰ·trans d e) = steps_perm d ∙ steps_perm e

  -- ---- what is left: of the running one its instructions, of each waiting its start and its instructions

  abbrev left : Engine → ℕ
  left (engine t waiting rest d) = steps_of p waiting
  left (engine t waiting (busy a c) d) = (length (code p a.event) - c) + steps_of p waiting

  -- nothing waiting outranks the running one
  abbrev Leading : Engine → Type 0
  Leading (engine t waiting rest d) = Unit {0}
  Leading (engine t waiting (busy a c) d) = All (λ x. rank p x ≤ rank p a) waiting

  -- the steps in a call
  abbrev spent : Call → ℕ
  spent (arrive e who) = 0
  spent step = 1
  spent (board i who) = 0

  abbrev Spends : Call → Engine → Effect → Engine → Type 0
  Spends c w x v = Reached p w → number v ≡ number w → Leading w → Leading v × (left v ≡ left w - spent c)

  spends : Cases p Spends
  unfolding steps_of sum
  spends = record {
    refuses = λ e who w r z h. (h, omega arith);
    takes = λ e who t waiting q d k eight m o r z h. absurd (omega arith);
    reads = λ i who w r z h. (h, omega arith);
    idles = λ t d r z h. (tt, omega arith);
    starts = λ t b l d r z h. (
      all_imp (Leads p (choose p b l).next) _ (λ x k. k.0) (choose p b l).others (choose_first p b l).1,
      omega (arith, steps_perm (choose_perm p b l)),
    );
    preempts = λ t b l a c d u o r z h. absurd (omega (arith, (all_perm (λ (x : Arrival). rank p x ≤ rank p a) (choose_perm p b l) h).0));
    runs = λ t waiting a c d k u r z h. (h, omega arith);
    commits = λ t waiting a c d k u r z h. (tt, omega (arith, r.done.0));
  }

  -- ---- calls

  steps_spent : (c : Call) (ds : List Call) → step_count (c ∷ ds) ≡ spent c + step_count ds
  unfolding step_count
  steps_spent (arrive e who) ds = omega arith
  steps_spent step ds = omega arith
  steps_spent (board i who) ds = omega arith

  -- ---- idle is where nothing is left

  idle_left : (w : Engine) → Idle p w → left w ≡ 0
  unfolding steps_of sum
  idle_left (engine t waiting rest d) h = ap (steps_of p) (idle_empty p (engine t waiting rest d) h)
  idle_left (engine t waiting (busy a c) d) h =
      let z : ◌≡◌ {A = ℕ} 1 0 = cc (idle_empty p (engine t waiting (busy a c) d) h) in absurd (omega arith)

  left_idle : (w : Engine) → Reached p w → left w ≡ 0 → Idle p w
  unfolding act steps_of sum
  left_idle (engine t [] rest d) r h = refl
  left_idle (engine t (b ∷ l) rest d) r h = absurd (omega arith)
  left_idle (engine t waiting (busy a c) d) r h = absurd (omega (arith, r.done.0))

  module _ (facts : CodeFacts p) where
    falls : (ds : List Call) (w : Engine) → Reached p w → Leading w → number (run p ds w) ≡ number w → left (run p ds w) ≡ left w - step_count ds
    unfolding run step_count
    falls [] w r h e = omega arith
    falls (c ∷ ds) w r h e =
        let v : Engine = (act p c w).after in
        let a : number w ≤ number v = act_grows p c w in
        let b : number v ≤ number (run p ds v) = run_grows p ds v in
        let same : number v ≡ number w = omega arith in
        let k = act_by p Spends spends c w r same h in
        let m = falls ds v (act_keeps p facts c w r) k.0 (e ∙ sym same) in
        omega (arith, steps_spent c ds, k.1)

    from_rest : (w : Engine) → AtRest w → Leading w × (left w ≡ steps_of p (in_queue w))
    from_rest (engine t waiting rest d) h = (tt, refl)
    from_rest (engine t waiting (busy a c) d) h = elim h [ ]

    pub quiet_from : (w : Engine) → Reached p w → AtRest w → (ds : List Call) → number (run p ds w) ≡ number w
        → (step_count ds < steps_of p (in_queue w) → Idle p (run p ds w) → ⊥) × (steps_of p (in_queue w) ≤ step_count ds → Idle p (run p ds w))
    quiet_from w r h ds e =
        let k = from_rest w h in
        let m : left (run p ds w) ≡ steps_of p (in_queue w) - step_count ds = falls ds w r k.0 e ∙ ap (λ (n : ℕ). n - step_count ds) k.1 in
        (λ b i. omega (arith, idle_left (run p ds w) i), λ b. left_idle (run p ds w) (run_keeps p facts ds w r) (omega arith))
