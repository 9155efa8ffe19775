-- Once no more are taken in, idle comes within (k + 1) × (L + 1) steps: a measure of what is left to do falls at each
-- step until it is 0, and 0 is idle.
use Rattle.lib_base.proofs.Prelude.{ℕ, ◌≤◌, ◌<◌, ◌+◌, ◌-◌, suc, zero, ◌*◌, max, ◌≡◌, refl, ◌∙◌, sym, ap, true, false}
use Rattle.lib_base.proofs.Prelude.{Bool, List, [], ◌∷◌, length, ltb, le-ltb, lt-ltb, arith}
use mathlib.Core.List.{foldr}
use Rattle.lib_base.specs.Basics.{All}
use Rattle.lib_base.proofs.Tools.{all_perm}
use Rattle.spec_language.specs.Syntax.{Program}
use Rattle.spec_language.specs.Dependence.{events}
use Rattle.spec_language.specs.Code.{code}
use Rattle.spec_language.specs.Order.{up_to}
use Rattle.spec_execution.specs.Execution.{Values}
use Rattle.spec_execution.specs.CodeFacts.{CodeFacts}
use Rattle.spec_model.specs.Model.{Arrival, rest, busy, Engine, engine, Call, arrive, step, board, Chosen, rank, aside, choose, begin, act, run}
use Rattle.spec_model.specs.Claims.{number, in_queue, after, longest}
use Rattle.spec_model.proofs.States.{Idle}
use Rattle.spec_model.proofs.Choice.{Leads, choose_perm, choose_first, choose_length}
use Rattle.spec_model.proofs.Moves.{Effect, Cases, act_by}
use Rattle.spec_model.proofs.Reached.{Fine, Reached, back_perm, act_keeps}
use Rattle.spec_model.proofs.Calls.{act_grows, run_grows, step_count}

-- ---- the longest event

max_up_to : (n : ℕ) (f : ℕ → ℕ) (e : ℕ) → e < n → f e ≤ foldr max 0 (up_to n f)
unfolding up_to
max_up_to zero f e h = absurd (omega arith)
max_up_to (suc n) f zero h = omega arith
max_up_to (suc n) f (suc e) h = omega (arith, max_up_to n (λ i. f (suc i)) e (omega arith))

pub longest_most : (p : Program) (e : ℕ) → e < events p → length (code p e) ≤ longest p
unfolding longest
longest_most p e h = max_up_to (events p) (λ i. length (code p i)) e h

module _ (p : Program) where
  -- ---- the measure: the instructions of the running one, a whole event for each waiting, and one more if the running
  -- one is to start again

  abbrev over : Arrival → List Arrival → Bool
  over a [] = false
  over a (b ∷ l) = ltb (rank p a) (rank p (choose p b l).next)

  abbrev pub extra : Bool → ℕ
  extra true = longest p + 1
  extra false = 0

  abbrev left : Engine → ℕ
  left (engine t waiting rest d) = length waiting * (longest p + 1)
  left (engine t waiting (busy a c) d) = (length (code p a.event) - c) + length waiting * (longest p + 1) + extra (over a waiting)

  not_over : (a : Arrival) (l : List Arrival) → All (Leads p a) l → over a l ≡ false
  not_over a [] h = refl
  not_over a (b ∷ l) h = le-ltb _ _ (all_perm (Leads p a) (choose_perm p b l) h).0.0

  pub extra_le : (b : Bool) → extra b ≤ longest p + 1
  extra_le true = omega arith
  extra_le false = omega arith

  begin_left : (t : ℕ) (c : Chosen) (d : Values) (n : ℕ) → length c.others ≡ n → All (Leads p c.next) c.others → c.next.event < events p
      → left (begin p t c d) < (n + 1) * (longest p + 1)
  begin_left t c d n e h k = rw (not_over c.next c.others h) rw e (omega (arith, longest_most p c.next.event k))

  -- the steps that a call allows
  abbrev pub allowed : Call → ℕ → ℕ
  allowed (arrive e who) n = n
  allowed step n = suc n
  allowed (board i who) n = n

  abbrev Falls : Call → Engine → Effect → Engine → Type 0
  Falls c w x v = Reached p w → number v ≡ number w → (n : ℕ) → left w ≤ allowed c n → left v ≤ n

  preempts_falls : (t : ℕ) (b : Arrival) (l : List Arrival) (a : Arrival) (c : ℕ) (d : Values) → rank p a < rank p (choose p b l).next
      → Reached p (engine t (b ∷ l) (busy a c) d) → (n : ℕ) → left (engine t (b ∷ l) (busy a c) d) ≤ suc n → left (begin p t (aside p a (choose p b l)) d) ≤ n
  preempts_falls t b l a c d o r n h =
      let g : left (begin p t (aside p a (choose p b l)) d) < (length (b ∷ l) + 1) * (longest p + 1) =
      begin_left t (aside p a (choose p b l)) d (suc (length l)) (ap suc (choose_length p b l)) ((omega arith, λ e. absurd (omega arith)), (choose_first p b l).1)
      (all_perm (Fine p t) (back_perm p a b l) r.fine).0.1 in
      let k : over a (b ∷ l) ≡ true = lt-ltb _ _ o in
      let m = rw k at h in
      omega arith

  falls : Cases p Falls
  falls = record {
    refuses = λ e who w r z n h. h;
    takes = λ e who t waiting q d k eight m o r z n h. absurd (omega arith);
    reads = λ i who w r z n h. h;
    idles = λ t d r z n h. omega arith;
    starts = λ t b l d r z n h.
        let g : left (begin p t (choose p b l) d) < (length l + 1) * (longest p + 1) =
        begin_left t (choose p b l) d (length l) (choose_length p b l) (choose_first p b l).1
        (all_perm (Fine p t) (choose_perm p b l) r.fine).0.1 in omega arith;
    preempts = λ t b l a c d u o r z n h. preempts_falls t b l a c d o r n h;
    runs = λ t waiting a c d k u r z n h. omega (arith, r.done.0);
    commits = λ t waiting a c d k u r z n h. omega (arith, r.done.0);
  }

  -- ---- calls

  pub steps_allowed : (c : Call) (ds : List Call) → step_count (c ∷ ds) ≡ allowed c (step_count ds)
  unfolding step_count
  steps_allowed (arrive e who) ds = refl
  steps_allowed step ds = refl
  steps_allowed (board i who) ds = refl

  none_left : (w : Engine) → Reached p w → left w ≤ 0 → Idle p w
  unfolding act
  none_left (engine t [] rest d) r h = refl
  none_left (engine t (b ∷ l) rest d) r h = absurd (omega arith)
  none_left (engine t waiting (busy a c) d) r h = absurd (omega (arith, r.done.0))

  bound : (w : Engine) → Reached p w → left w ≤ (length (in_queue w) + 1) * (longest p + 1)
  bound (engine t waiting rest d) r = omega arith
  bound (engine t waiting (busy a c) d) r = omega (arith, extra_le (over a waiting), longest_most p a.event r.fine.0.1)

  module _ (facts : CodeFacts p) where
    goes_idle : (ds : List Call) (w : Engine) → Reached p w → number (run p ds w) ≡ number w → left w ≤ step_count ds → Idle p (run p ds w)
    unfolding run step_count
    goes_idle [] w r e h = none_left w r h
    goes_idle (c ∷ ds) w r e h =
        let v : Engine = (act p c w).after in
        let a : number w ≤ number v = act_grows p c w in
        let b : number v ≤ number (run p ds v) = run_grows p ds v in
        let same : number v ≡ number w = omega arith in
        goes_idle ds v (act_keeps p facts c w r) (e ∙ sym same) (act_by p Falls falls c w r same (step_count ds) (rw (steps_allowed c ds) at h))

    pub empty : (w : Engine) → length (in_queue w) ≡ 0 → Idle p w
    unfolding act
    empty (engine t [] rest d) h = refl
    empty (engine t (b ∷ l) rest d) h = absurd (omega arith)
    empty (engine t waiting (busy a c) d) h = absurd (omega arith)

    pub idle_from : (w : Engine) → Reached p w → (ds : List Call) → number (run p ds w) ≡ number w
        → (length (in_queue w) + 1) * (longest p + 1) ≤ step_count ds → Idle p (run p ds w)
    idle_from w r ds e h = goes_idle ds w r e (omega (arith, bound w r))
