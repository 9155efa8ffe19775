-- Each arrival taken in is committed once or is in the hand, whatever changes are made: taken in are the committed and
-- those in hand, up to order, and each turn keeps that.
use Rattle.lib_base.proofs.Prelude.{ℕ, ◌<◌, ◌+◌, ◌≡◌, refl, true, false, true≢false, ◌≢◌, List, [], ◌∷◌, ◌++◌}
use Rattle.lib_base.proofs.Prelude.{append_assoc, append-nil, List-as-Permᴰ, List·Permᴰ·trans, List-as-Nodup, List·Permᴰ·cons}
use Rattle.lib_base.proofs.Prelude.{List·Permᴰ·swap, Permᴰ·symm, List·Permᴰ·nil, Pairwise·nil, Permᴰ·refl, length, ltb}
use Rattle.lib_base.proofs.Prelude.{arith}
use mathlib.Core.List.Permᴰ
use Rattle.lib_base.specs.Basics.{All}
use Rattle.lib_base.proofs.Tools.{all_perm, all_imp, by_test}
use Rattle.spec_language.specs.Syntax.{Program}
use Rattle.spec_language.specs.Valid.{Valid}
use Rattle.spec_language.specs.Code.{code}
use Rattle.spec_execution.specs.CodeFacts.{CodeFacts}
use Rattle.spec_execution.specs.Execution.{Values}
use Rattle.spec_model.specs.Model.{Arrival, arrival, Running, Engine, engine, queue, Turn, State, state, carried_to, rest, busy, idle, Outcome, Chosen, rank, masked, advance, contest, choose, act}
use Rattle.spec_model.specs.Claims.{number, in_queue, after, taken_in_by, IdleIn, OnceEach}
use Rattle.spec_model.specs.Sound.{Sound}
use Rattle.spec_model.proofs.Moments.{Moment, commits, changes, moments_of, arrivals_committed, committed_in_law}
use Rattle.spec_model.proofs.States.{number_in, hand_in, Idle}
use Rattle.spec_model.proofs.Choice.{numbers, distinct_numbers, new_number, choose_perm}
use Rattle.spec_model.proofs.Moves.{Cases}
use Rattle.spec_model.proofs.Reached.{back_perm}
use Rattle.spec_model.proofs.History.{Kept, Keeps, always}

-- ---- the queue, which is the hand

pub snoc_perm : (l : List Arrival) (a : Arrival) → List-as-Permᴰ (a ∷ l) (l ++ (a ∷ []))
snoc_perm l a = Permᴰ·symm (List·Permᴰ·trans (Permᴰ.middle a l []) (List·Permᴰ·cons refl (Permᴰ.append-nil l)))

-- the newcomer joins the waiting, behind the running one
pub joins : (a : Arrival) (waiting : List Arrival) (r : Running) → List-as-Permᴰ (a ∷ queue waiting r) (queue (a ∷ waiting) r)
joins a waiting rest = Permᴰ·refl (a ∷ waiting)
joins a waiting (busy b c) = List·Permᴰ·swap refl refl

module _ (p : Program) where
  -- ---- idle: nothing is in the queue

  abbrev Works : Outcome → Type 0
  Works o = o.answer ≡ idle → true ≡ false

  advance_works : (t : ℕ) (waiting : List Arrival) (a : Arrival) (n : ℕ) (d : Values) → Works (advance p t waiting a n d)
  advance_works t waiting a n d = by_test Works (ltb (n + 1) (length (code p a.event))) (λ _ h. cc) (λ _ h. cc)

  contest_works : (t : ℕ) (waiting : List Arrival) (c : Chosen) (a : Arrival) (n : ℕ) (d : Values) → Works (contest p t waiting c a n d)
  contest_works t waiting c a n d =
      by_test Works (masked p a n) (λ _. advance_works t waiting a n d)
      (λ _. by_test Works (ltb (rank p a) (rank p c.next)) (λ _ h. cc) (λ _. advance_works t waiting a n d))

  pub idle_empty : (w : Engine) → Idle p w → in_queue w ≡ []
  unfolding act
  idle_empty (engine t [] rest d) h = refl
  idle_empty (engine t (b ∷ l) rest d) h = cc
  idle_empty (engine t [] (busy a c) d) h = absurd (true≢false (advance_works t [] a c d h))
  idle_empty (engine t (b ∷ l) (busy a c) d) h = absurd (true≢false (contest_works t (b ∷ l) (choose p b l) a c d h))

-- ---- histories

pub committed_commit : (h : List Moment) (a : Arrival) → arrivals_committed (h ++ (commits a ∷ [])) ≡ arrivals_committed h ++ (a ∷ [])
committed_commit [] a = refl
committed_commit (commits b ∷ h) a = λ t. b ∷ committed_commit h a t
committed_commit (changes q ∷ h) a = committed_commit h a

committed_change : (h : List Moment) (q : Program) → arrivals_committed (h ++ (changes q ∷ [])) ≡ arrivals_committed h
committed_change [] q = refl
committed_change (commits b ∷ h) q = λ t. b ∷ committed_change h q t
committed_change (changes r ∷ h) q = committed_change h q

-- of the commits, the hand, the number taken in and the arrivals taken in
abbrev pub Split : List Arrival → List Arrival → ℕ → List Arrival → Type 0
Split log hand t taken = List-as-Permᴰ taken (log ++ hand) × All (λ a. a.number < t) taken × List-as-Nodup (numbers taken)

abbrev pub Once : List Turn → List Moment → List Arrival → State → Type 0
Once past h taken s = Split (arrivals_committed h) (hand_in s) (number_in s) taken

moved : (log : List Arrival) (t : ℕ) (taken : List Arrival) {q r : List Arrival} → List-as-Permᴰ q r → Split log q t taken → Split log r t taken
moved log t taken d h = (List·Permᴰ·trans h.0 (Permᴰ.append_left log d), h.1, h.2)

takes_once : (e who t : ℕ) (waiting : List Arrival) (r : Running) (log taken : List Arrival) → Split log (queue waiting r) t taken
    → Split log (queue (arrival t e who ∷ waiting) r) (t + 1) (taken ++ (arrival t e who ∷ []))
takes_once e who t waiting r log taken h =
    let a : Arrival = arrival t e who in
    let d : List-as-Permᴰ (a ∷ taken) (log ++ queue (a ∷ waiting) r) =
    List·Permᴰ·trans (List·Permᴰ·cons refl h.0)
    (List·Permᴰ·trans (Permᴰ·symm (Permᴰ.middle a log (queue waiting r))) (Permᴰ.append_left log (joins a waiting r))) in
    let f : All (λ x. x.number < t + 1) (a ∷ taken) = (omega arith, all_imp (λ x. x.number < t) (λ x. x.number < t + 1) (λ x y. omega arith) taken h.1) in
    let g : List-as-Nodup (numbers (a ∷ taken)) =
    new_number t taken (all_imp (λ x. x.number < t) (λ x. t ≢ x.number) (λ x y. omega arith) taken h.1) h.2 in
    let m : List-as-Permᴰ (a ∷ taken) (taken ++ (a ∷ [])) = snoc_perm taken a in
    (List·Permᴰ·trans (Permᴰ·symm m) d, all_perm (λ x. x.number < t + 1) m f, distinct_numbers m g)

carried_once : (p q : Program) (w : Engine) (h : List Moment) (taken : List Arrival) → Split (arrivals_committed h) (in_queue w) (number w) taken
    → Split (arrivals_committed (h ++ (changes q ∷ []))) (in_queue (carried_to p q w)) (number (carried_to p q w)) taken
carried_once p q (engine t waiting r d) h taken i = rw (committed_change h q) i

module _ (p₀ : Program) where
  calls : (p : Program) → CodeFacts p → Cases p (Kept p₀ Once p)
  calls p facts = record {
    refuses = λ e who w r past h taken l here i. i;
    takes = λ e who t waiting r d k eight m n reach past h taken l here i. takes_once e who t waiting r (arrivals_committed h) taken i;
    reads = λ j who w r past h taken l here i. i;
    idles = λ t d r past h taken l here i. i;
    starts = λ t b m d r past h taken l here i. moved (arrivals_committed h) t taken (choose_perm p b m) i;
    preempts = λ t b m a n d u o r past h taken l here i. moved (arrivals_committed h) t taken (back_perm p a b m) i;
    runs = λ t waiting a n d k u r past h taken l here i. i;
    commits = λ t waiting a n d k u r past h taken l here i.
        rw (committed_commit h a) (rw (append_assoc (arrivals_committed h) (a ∷ []) waiting) i.0, i.1, i.2);
  }

  keeps : Keeps p₀ Once
  keeps = record {
    calls = calls;
    refuses = λ q past h taken s i. i;
    carries = λ p q w v z r u f past h taken l i. carried_once p q w h taken i;
  }

  module _ (v : Valid p₀) where
    pub once : (ts : List Turn) → All Sound ts → Once ts (moments_of p₀ ts) (taken_in_by p₀ ts) (after p₀ ts)
    once ts g = always p₀ Once keeps v (List·Permᴰ·nil, tt, Pairwise·nil) ts g

    pub idle_hand : (s : State) → IdleIn s → hand_in s ≡ []
    idle_hand (state p w) h = idle_empty p w h

    pub once_each : (ts : List Turn) → All Sound ts → OnceEach p₀ ts
    once_each ts g =
        let h = once ts g in
        rw (committed_in_law p₀ ts) (h.0, h.2, λ z. rw (idle_hand (after p₀ ts) z, append-nil) at h.0)
