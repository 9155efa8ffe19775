-- Nobody waits for ever: an arrival in the queue is committed within (k + 1) × (L + 1) steps if nothing of higher
-- priority is taken in. What is left to do before that commit falls at each step and is never 0, and arrivals of its
-- own or a lower priority do not raise it.
use Rattle.lib_base.proofs.Prelude.{ℕ, ◌≤◌, ◌<◌, ◌+◌, ◌-◌, ◌*◌, ◌≡◌, refl, ◌∙◌, sym, ap, subst, true, false, Bool, ◌||◌}
use Rattle.lib_base.proofs.Prelude.{◌⊎◌, ⊎_elim, inr, inl, List, [], ◌∷◌, List-as-Permᴰ, List·Permᴰ·trans, List·Permᴰ·cons}
use Rattle.lib_base.proofs.Prelude.{List·Permᴰ·swap, Permᴰ·symm, List·Permᴰ·nil, List-as-Memᴰ, length, ltb, le-ltb, lt-ltb}
use Rattle.lib_base.proofs.Prelude.{ltb-false, ltb-true, arith}
use mathlib.Core.List.Memᴰ
use Rattle.lib_base.specs.Basics.{pick, All}
use Rattle.lib_base.proofs.Tools.{by_test, split, all_perm, all_imp, all_split, all_member, none_of}
use Rattle.spec_language.specs.Syntax.{Program}
use Rattle.spec_language.specs.Code.{code}
use Rattle.spec_execution.specs.Execution.{Values}
use Rattle.spec_execution.specs.CodeFacts.{CodeFacts}
use Rattle.spec_model.specs.Model.{Arrival, arrival, Running, rest, busy, Engine, engine, queue, Call, Answer, rank, before, aside, choose, begin, act}
use Rattle.spec_model.specs.Claims.{number, in_queue, after, longest}
use Rattle.spec_model.proofs.Calls.{answers, commits_of, taken_from, logged, gathered, counted, commits_logged, taken_gathered, act_number, step_count}
use Rattle.spec_model.proofs.Choice.{Leads, choose_perm, choose_first}
use Rattle.spec_model.proofs.Moves.{Effect, effect, Cases, act_by}
use Rattle.spec_model.proofs.Reached.{Fine, Reached, back_perm, act_keeps}
use Rattle.spec_model.proofs.Once.{joins}
use Rattle.spec_model.proofs.IdleWithin.{longest_most, extra, extra_le, allowed, steps_allowed}

-- ---- members

each_in : (l : List Arrival) → All (λ x. List-as-Memᴰ x l) l
each_in [] = tt
each_in (x ∷ l) = (Memᴰ.head refl, all_imp (λ y. List-as-Memᴰ y l) (λ y. List-as-Memᴰ y (x ∷ l)) (λ y m. Memᴰ.tail m) l (each_in l))

mem_perm : {a : Arrival} {l m : List Arrival} → List-as-Permᴰ l m → List-as-Memᴰ a l → List-as-Memᴰ a m
mem_perm {a} {l} {m} d h = all_member (λ x. List-as-Memᴰ x m) l (all_perm (λ x. List-as-Memᴰ x m) (Permᴰ·symm d) (each_in m)) h

module _ (p : Program) where
  -- ---- is the running one outranked?

  abbrev over : Arrival → List Arrival → Bool
  over r [] = false
  over r (b ∷ l) = ltb (rank p r) (rank p b) || over r l

  not_over : (r : Arrival) (l : List Arrival) → All (λ x. rank p x ≤ rank p r) l → over r l ≡ false
  not_over r [] h = refl
  not_over r (b ∷ l) h = rw (le-ltb (rank p r) (rank p b) h.0) (not_over r l h.1)

  none_over : (r : Arrival) (l : List Arrival) → over r l ≡ false → All (λ x. rank p x ≤ rank p r) l
  none_over r [] h = tt
  none_over r (b ∷ l) h =
      let k = none_of (ltb (rank p r) (rank p b)) (over r l) h in (ltb-false _ _ k.0, none_over r l k.1)

  same_leads : (b : Arrival) → Leads p b b
  same_leads b = (omega arith, λ e. omega arith)

  -- what leads all others is not outranked
  leader : (r : Arrival) (l : List Arrival) → All (Leads p r) l → over r l ≡ false
  leader r l h = not_over r l (all_imp (Leads p r) (λ x. rank p x ≤ rank p r) (λ x k. k.0) l h)

module _ (p : Program) (a : Arrival) where
  -- ---- what waits before a or is a: a whole event and its start for each

  unfoldable share : Arrival → ℕ
  share b = pick (before p a b) 0 (longest p + 1)

  abbrev shares : List Arrival → ℕ
  shares [] = 0
  shares (b ∷ l) = share b + shares l

  share_le : (b : Arrival) → share b ≤ longest p + 1
  unfolding share
  share_le b = by_test (λ (n : ℕ). n ≤ longest p + 1) (before p a b) (λ _. omega arith) (λ _. omega arith)

  -- what leads a has its share
  share_ahead : (b : Arrival) → Leads p b a → share b ≡ longest p + 1
  unfolding share
  share_ahead b h =
      let f : before p a b ≡ false =
      by_test (λ (t : Bool). t ≡ false) (ltb (rank p b) (rank p a)) (λ e. absurd (omega (arith, ltb-true)))
      (λ e. by_test (λ (t : Bool). t ≡ false) (ltb (rank p a) (rank p b)) (λ _. refl)
      (λ g. le-ltb _ _ (h.1 (omega (arith, ltb-false))))) in
      rw f refl

  -- a newcomer has none
  share_behind : (b : Arrival) → rank p b ≤ rank p a → a.number < b.number → share b ≡ 0
  unfolding share
  share_behind b h k =
      let f : before p a b ≡ true =
      by_test (λ (t : Bool). t ≡ true) (ltb (rank p b) (rank p a)) (λ _. refl)
      (λ e. by_test (λ (t : Bool). t ≡ true) (ltb (rank p a) (rank p b)) (λ g. absurd (omega (arith, ltb-true)))
      (λ _. lt-ltb _ _ k)) in
      rw f refl

  shares_perm : {l m : List Arrival} → List-as-Permᴰ l m → shares l ≡ shares m
  shares_perm List·Permᴰ·nil = refl
  shares_perm (List·Permᴰ·cons e d) = omega (arith, ap share e, shares_perm d)
  shares_perm (List·Permᴰ·swap e f) = omega (arith, ap share e, ap share f)
  shares_perm (List·Permᴰ·trans d e) = shares_perm d ∙ shares_perm e

  shares_le : (l : List Arrival) → shares l ≤ length l * (longest p + 1)
  shares_le [] = omega arith
  shares_le (b ∷ l) = omega (arith, share_le b, shares_le l)

  -- ---- the measure: the instructions of the running one, the shares of the waiting, and one more event if the running
  -- one is to start again

  abbrev left : Engine → ℕ
  left (engine t waiting rest d) = shares waiting
  left (engine t waiting (busy r c) d) = (length (code p r.event) - c) + shares waiting + extra p (over p r waiting)

  -- of a call: a is committed by it, or is in the queue after it with less left to do
  abbrev Nearer : Call → Engine → Effect → Engine → Type 0
  Nearer c w x v =
      Reached p w → List-as-Memᴰ a (in_queue w) → All (λ b. rank p b ≤ rank p a) (gathered x []) → (n : ℕ) → left w ≤ allowed p c n
      → List-as-Memᴰ a (logged x []) ⊎ (List-as-Memᴰ a (in_queue v) × (left v ≤ n))

  -- ---- an arrival

  -- one of a lower or a's own priority outranks the running one only where something does
  extra_same : (r b : Arrival) (l : List Arrival) → List-as-Memᴰ a (r ∷ l) → rank p b ≤ rank p a → extra p (over p r (b ∷ l)) ≤ extra p (over p r l)
  extra_same r b l m h =
      split (over p r l) (λ e. rw e (extra_le p (ltb (rank p r) (rank p b) || true)))
      (λ e. let k : rank p a ≤ rank p r = all_member (λ x. rank p x ≤ rank p r) (r ∷ l) (omega arith, none_over p r l e) m in
      rw (not_over p r (b ∷ l) (omega arith, none_over p r l e)) (omega arith))

  takes_left : (e who t : ℕ) (waiting : List Arrival) (r : Running) (d : Values) → Reached p (engine t waiting r d) → List-as-Memᴰ a (queue waiting r)
      → rank p (arrival t e who) ≤ rank p a → left (engine (t + 1) (arrival t e who ∷ waiting) r d) ≤ left (engine t waiting r d)
  takes_left e who t waiting rest d reach m h =
      let k : share (arrival t e who) ≡ 0 = share_behind (arrival t e who) h (all_member (Fine p t) waiting reach.fine m).0 in omega arith
  takes_left e who t waiting (busy r c) d reach m h =
      let k : share (arrival t e who) ≡ 0 = share_behind (arrival t e who) h (all_member (Fine p t) (r ∷ waiting) reach.fine m).0 in
      omega (arith, extra_same r (arrival t e who) waiting m h)

  -- ---- a start and a preemption

  starts_left : (t : ℕ) (b : Arrival) (l : List Arrival) (d : Values) → Reached p (engine t (b ∷ l) rest d) → List-as-Memᴰ a (b ∷ l)
      → left (begin p t (choose p b l) d) < left (engine t (b ∷ l) rest d)
  starts_left t b l d r m =
      let c = choose p b l in
      let first : Leads p c.next a =
      all_member (Leads p c.next) (b ∷ l) (all_perm (Leads p c.next) (Permᴰ·symm (choose_perm p b l)) (same_leads p c.next, (choose_first p b l).1)) m in
      rw (leader p c.next c.others (choose_first p b l).1)
      (omega (
        arith,
        shares_perm (choose_perm p b l),
        share_ahead c.next first,
        longest_most p c.next.event (all_perm (Fine p t) (choose_perm p b l) r.fine).0.1,
      ))

  preempts_left : (t : ℕ) (b : Arrival) (l : List Arrival) (r : Arrival) (n : ℕ) (d : Values) → rank p r < rank p (choose p b l).next
      → Reached p (engine t (b ∷ l) (busy r n) d) → List-as-Memᴰ a (r ∷ (b ∷ l))
      → left (begin p t (aside p r (choose p b l)) d) < left (engine t (b ∷ l) (busy r n) d)
  preempts_left t b l r n d o reach m =
      let c = choose p b l in
      let leads : All (Leads p c.next) (r ∷ c.others) = ((omega arith, λ e. absurd (omega arith)), (choose_first p b l).1) in
      let first : Leads p c.next a =
      all_member (Leads p c.next) (r ∷ (b ∷ l)) (all_perm (Leads p c.next) (Permᴰ·symm (back_perm p r b l)) (same_leads p c.next, leads)) m in
      let again : over p r (b ∷ l) ≡ true =
      split (over p r (b ∷ l)) (λ e. e)
      (λ e. absurd (omega (arith, (all_perm (λ (x : Arrival). rank p x ≤ rank p r) (choose_perm p b l) (none_over p r (b ∷ l) e)).0))) in
      rw (leader p c.next (r ∷ c.others) leads, again)
      (omega (
        arith,
        shares_perm (choose_perm p b l),
        share_ahead c.next first,
        share_le r,
        reach.done.0,
        longest_most p c.next.event (all_perm (Fine p t) (back_perm p r b l) reach.fine).0.1,
      ))

  nearer : Cases p Nearer
  nearer = record {
    refuses = λ e who w r m g n h. inr (m, h);
    takes = λ e who t waiting q d k eight o u r m g n h.
        inr (mem_perm (joins (arrival t e who) waiting q) (Memᴰ.tail m), omega (arith, takes_left e who t waiting q d r m g.0));
    reads = λ i who w r m g n h. inr (m, h);
    idles = λ t d r m g n h. absurd (Memᴰ.not-nil m);
    starts = λ t b l d r m g n h. inr (mem_perm (choose_perm p b l) m, omega (arith, starts_left t b l d r m));
    preempts = λ t b l q c d u o r m g n h. inr (mem_perm (back_perm p q b l) m, omega (arith, preempts_left t b l q c d o r m));
    runs = λ t waiting q c d k u r m g n h. inr (m, omega (arith, r.done.0));
    commits = λ t waiting q c d k u r m g n h.
        ⊎_elim (λ e. inl (Memᴰ.head e)) (λ k. inr (k, omega (arith, r.done.0))) (Memᴰ.cases_cons m);
  }

  -- ---- calls

  -- while a is in the queue something is left to do
  some_left : (w : Engine) → Reached p w → List-as-Memᴰ a (in_queue w) → 0 < left w
  some_left (engine t [] rest d) r m = absurd (Memᴰ.not-nil m)
  some_left (engine t (b ∷ l) rest d) r m = omega (arith, starts_left t b l d r m)
  some_left (engine t waiting (busy q c) d) r m = omega (arith, r.done.0)

  bound : (w : Engine) → Reached p w → left w ≤ (length (in_queue w) + 1) * (longest p + 1)
  bound (engine t waiting rest d) r = omega (arith, shares_le waiting)
  bound (engine t waiting (busy q c) d) r =
      omega (arith, shares_le waiting, extra_le p (over p q waiting), longest_most p q.event r.fine.0.1)

  module _ (facts : CodeFacts p) where
    comes : (ds : List Call) (w : Engine) → Reached p w → List-as-Memᴰ a (in_queue w)
        → All (λ b. rank p b ≤ rank p a) (taken_from ds (answers p ds w) (number w)) → left w ≤ step_count ds → List-as-Memᴰ a (commits_of (answers p ds w))
    unfolding answers step_count commits_of taken_from
    comes [] w r m g h = absurd (omega (arith, some_left w r m))
    comes (c ∷ ds) w r m g h =
        let v : Engine = (act p c w).after in
        let said : Answer = (act p c w).answer in
        let x : Effect = effect c said (number w) in
        let l : List Answer = answers p ds v in
        let both = all_split (λ b. rank p b ≤ rank p a) (gathered x []) (taken_from ds l (counted x (number w)))
        (subst (All (λ b. rank p b ≤ rank p a)) (taken_gathered c said (number w) [] (taken_from ds l)) g) in
        let later : All (λ b. rank p b ≤ rank p a) (taken_from ds l (number v)) = rw (act_number p c w) both.1 in
        subst (List-as-Memᴰ a) (sym (commits_logged c said (number w) [] (commits_of l)))
        (⊎_elim (λ k. Memᴰ.append_left (commits_of l) k)
        (λ k. Memᴰ.append_right (logged x []) (comes ds v (act_keeps p facts c w r) k.0 later k.1))
        (act_by p Nearer nearer c w r m both.0 (step_count ds) (rw (steps_allowed p c ds) at h)))

module _ (p : Program) (facts : CodeFacts p) where
  pub waits_from : (w : Engine) → Reached p w → (ds : List Call) (a : Arrival) → List-as-Memᴰ a (in_queue w)
      → All (λ b. rank p b ≤ rank p a) (taken_from ds (answers p ds w) (number w))
      → (length (in_queue w) + 1) * (longest p + 1) ≤ step_count ds → List-as-Memᴰ a (commits_of (answers p ds w))
  waits_from w r ds a m g h = comes p a facts ds w r m g (omega (arith, bound p a w r))
