-- What holds of every engine that is reached: the queue's limits, numbers and events, and the values as the first
-- instructions of the running event over a store. Each move keeps it.
use Rattle.lib_base.proofs.Prelude.{ℕ, ◌≤◌, ◌<◌, ◌+◌, suc, ◌≡◌, refl, ◌∙◌, ap, subst, false, Bool, ◌≢◌, List, [], ◌∷◌}
use Rattle.lib_base.proofs.Prelude.{List-as-Permᴰ, List·Permᴰ·trans, List-as-Nodup, List·Permᴰ·cons, List·Permᴰ·swap}
use Rattle.lib_base.proofs.Prelude.{Pairwise·of-cons, Pairwise·nil, length, get_or, take, take-suc, take_all, eqb, arith}
use Rattle.lib_base.specs.Basics.{All}
use Rattle.lib_base.proofs.Tools.{by_test, all_perm, all_imp}
use Rattle.spec_language.specs.Syntax.{Program}
use Rattle.spec_language.specs.Dependence.{size, events}
use Rattle.spec_language.specs.Code.{Instr, off, code}
use Rattle.spec_semantics.specs.Meaning.{fresh}
use Rattle.spec_semantics.specs.Event.{event}
use Rattle.spec_semantics.proofs.Lengths.{length_fresh}
use Rattle.spec_execution.specs.Execution.{Values, execute, emptied, times, masked_after, copying_back_after}
use Rattle.spec_execution.specs.Runs.{execute_all}
use Rattle.spec_execution.specs.CodeFacts.{CodeFacts}
use Rattle.spec_execution.proofs.Running.{execute_append}
use Rattle.spec_model.specs.Model.{Arrival, arrival, Running, rest, busy, Engine, engine, initial, queue, Call, choose, act, run}
use Rattle.spec_model.specs.Claims.{number, in_queue, store_of, copy_back_in, after}
use Rattle.spec_model.proofs.Choice.{numbers, distinct_numbers, new_number, perm_length, choose_perm}
use Rattle.spec_model.proofs.Moves.{Effect, nothing, took, commit, Cases, act_by}

module _ (p : Program) where
  -- ---- the statement

  -- its number is given, its event declared, its player one of the eight
  abbrev pub Fine : ℕ → Arrival → Type 0
  Fine t a = (a.number < t) × (a.event < events p) × (a.player < 8)

  -- at rest the store is s; a running event has its first c instructions done, from s
  abbrev pub Done : List ℕ → Running → Values → Type 0
  Done s rest d = d.store ≡ s
  Done s (busy a c) d = (c < length (code p a.event)) × (d ≡ execute_all (take c (code p a.event)) (emptied s))

  abbrev pub DoneIn : List ℕ → Engine → Type 0
  DoneIn s (engine t waiting r d) = Done s r d

  pub record Reached (w : Engine) : Type 0 where
    pub fine : All (Fine (number w)) (in_queue w)
    pub distinct : List-as-Nodup (numbers (in_queue w))
    pub few : length (in_queue w) ≤ 64
    pub bounded : number w ≤ 1000000
    pub from : List ℕ
    pub sized : length from ≡ size p
    pub done : DoneIn from w

  -- ---- queue

  abbrev Queued : Engine → Type 0
  Queued w = All (Fine (number w)) (in_queue w) × List-as-Nodup (numbers (in_queue w)) × (length (in_queue w) ≤ 64) × (number w ≤ 1000000)

  abbrev Keeps : Call → Engine → Effect → Engine → Type 0
  Keeps c w x v = Queued w → Queued v

  permuted : (t : ℕ) {q r : List Arrival} → List-as-Permᴰ q r → All (Fine t) q → List-as-Nodup (numbers q) → length q ≤ 64
      → All (Fine t) r × List-as-Nodup (numbers r) × (length r ≤ 64)
  permuted t d f h n = (all_perm (Fine t) d f, distinct_numbers d h, subst (λ (k : ℕ). k ≤ 64) (perm_length d) n)

  -- the running one goes back, the next is in front
  pub back_perm : (a b : Arrival) (l : List Arrival) → List-as-Permᴰ (a ∷ (b ∷ l)) ((choose p b l).next ∷ (a ∷ (choose p b l).others))
  back_perm a b l = List·Permᴰ·trans (List·Permᴰ·cons refl (choose_perm p b l)) (List·Permᴰ·swap refl refl)

  new_fine : (t e who : ℕ) (q : List Arrival) → e < events p → who < 8 → All (Fine t) q → List-as-Nodup (numbers q)
      → All (Fine (t + 1)) (arrival t e who ∷ q) × List-as-Nodup (numbers (arrival t e who ∷ q))
  new_fine t e who q k eight f h = (
    ((omega arith, k, eight), all_imp (Fine t) (Fine (t + 1)) (λ x y. (omega arith, y.1, y.2)) q f),
    new_number t q (all_imp (Fine t) (λ x. t ≢ x.number) (λ x y. omega arith) q f) h,
  )

  takes_queued : (e who t : ℕ) (waiting : List Arrival) (r : Running) (d : Values) → e < events p → who < 8 → length (queue waiting r) < 64 → t < 1000000
      → Queued (engine t waiting r d) → Queued (engine (t + 1) (arrival t e who ∷ waiting) r d)
  takes_queued e who t waiting rest d k eight n m h = let f = new_fine t e who waiting k eight h.0 h.1 in (f.0, f.1, omega arith, omega arith)
  takes_queued e who t waiting (busy a c) d k eight n m h =
      let f = new_fine t e who (a ∷ waiting) k eight h.0 h.1 in
      let g = permuted (t + 1) (List·Permᴰ·swap {l = waiting} refl refl) f.0 f.1 (omega arith) in
      (g.0, g.1, g.2, omega arith)

  keeps_queued : Cases p Keeps
  keeps_queued = record {
    refuses = λ e who w h. h;
    takes = takes_queued;
    reads = λ i who w h. h;
    idles = λ t d h. h;
    starts = λ t b l d h. let g = permuted t (choose_perm p b l) h.0 h.1 h.2 in (g.0, g.1, g.2, h.3);
    preempts = λ t b l a n d u o h. let g = permuted t (back_perm a b l) h.0 h.1 h.2 in (g.0, g.1, g.2, h.3);
    runs = λ t waiting a n d k u h. h;
    commits = λ t waiting a n d k u h. (h.0.1, Pairwise·of-cons h.1, omega arith, h.3);
  }

  -- ---- values

  pub executed_next : (is : List Instr) (c : ℕ) (d v : Values) → c < length is → d ≡ execute_all (take c is) v
      → execute (get_or is c off) d ≡ execute_all (take (c + 1) is) v
  unfolding execute_all
  executed_next is c d v h q =
      let n : c + 1 ≡ suc c = omega arith in
      rw (n, take-suc is c off h, execute_append (take c is) (get_or is c off ∷ []) v, q)

  -- the store after an effect
  abbrev pub onto : Effect → List ℕ → List ℕ
  onto nothing s = s
  onto (took a) s = s
  onto (commit a) s = event p a.event s

  module _ (facts : CodeFacts p) where
    pub some : (e : ℕ) → e < events p → 0 < length (code p e)
    some e h = omega (arith, facts.long e h)

    -- what is not masked does not copy back
    pub unmasked : (e c : ℕ) → masked_after (take c (code p e)) ≡ false → copying_back_after (take c (code p e)) ≡ false
    unmasked e c h = by_test (λ (x : Bool). x ≡ false) (eqb (times off (take c (code p e))) 2) (λ _. h) (λ _. refl)

    -- where it does not copy back, the store is as it was
    pub still : (s : List ℕ) (w : Engine) → length s ≡ size p → All (Fine (number w)) (in_queue w) → copy_back_in p w ≡ false → DoneIn s w → store_of w ≡ s
    still s (engine t waiting rest d) n f h q = q
    still s (engine t waiting (busy a c) d) n f h q = ap (λ (v : Values). v.store) q.1 ∙ facts.quiet a.event c f.0.1 s n q.0 h

    abbrev pub Computes : Call → Engine → Effect → Engine → Type 0
    Computes c w x v =
        All (Fine (number w)) (in_queue w) → (s : List ℕ) → length s ≡ size p → DoneIn s w
        → (length (onto x s) ≡ size p) × DoneIn (onto x s) v

    finished : (a : Arrival) (c : ℕ) (d : Values) (s : List ℕ) → length (code p a.event) ≤ c + 1 → c < length (code p a.event)
        → d ≡ execute_all (take c (code p a.event)) (emptied s) → length s ≡ size p → a.event < events p
        → (execute (get_or (code p a.event) c off) d).store ≡ event p a.event s
    finished a c d s k h q n f =
        ap (λ (v : Values). v.store) (executed_next (code p a.event) c d (emptied s) h q)
        ∙ rw (take_all (c + 1) (code p a.event) k) (facts.right a.event f s n)

    pub computes : Cases p Computes
    unfolding execute_all
    computes = record {
      refuses = λ e who w f s n q. (n, q);
      takes = λ e who t waiting r d k eight m o f s n q. (n, q);
      reads = λ i who w f s n q. (n, q);
      idles = λ t d f s n q. (n, q);
      starts = λ t b l d f s n q. (n, (some _ (all_perm (Fine t) (choose_perm p b l) f).0.1, ap emptied q));
      preempts = λ t b l a c d u o f s n q.
          let z : d.store ≡ s = still s (engine t (b ∷ l) (busy a c) d) n f (unmasked a.event c u) q in
          (n, (some _ (all_perm (Fine t) (back_perm a b l) f).0.1, ap emptied z));
      runs = λ t waiting a c d k u f s n q. (n, (k, executed_next (code p a.event) c d (emptied s) q.0 q.1));
      commits = λ t waiting a c d k u f s n q. (facts.kept a.event f.0.1 s n, finished a c d s k q.0 q.1 n f.0.1);
    }

    -- ---- both

    reached_of : {w : Engine} → Queued w → (s : List ℕ) → (length s ≡ size p) × DoneIn s w → Reached w
    reached_of h s q = record { fine = h.0; distinct = h.1; few = h.2; bounded = h.3; from = s; sized = q.0; done = q.1 }

    pub act_keeps : (c : Call) (w : Engine) → Reached w → Reached (act p c w).after
    act_keeps c w r =
        reached_of (act_by p Keeps keeps_queued c w (r.fine, r.distinct, r.few, r.bounded)) _
        (act_by p Computes computes c w r.fine r.from r.sized r.done)

    pub run_keeps : (cs : List Call) (w : Engine) → Reached w → Reached (run p cs w)
    unfolding run
    run_keeps [] w r = r
    run_keeps (c ∷ cs) w r = run_keeps cs (act p c w).after (act_keeps c w r)

    pub initially : Reached (initial p)
    unfolding emptied
    initially = record { fine = tt; distinct = Pairwise·nil; few = omega arith; bounded = omega arith; from = fresh p; sized = length_fresh p; done = refl }
