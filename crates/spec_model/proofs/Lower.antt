-- A lower priority, by those in force when it commits, goes before a higher one only if that was taken in after the
-- lower's copy-back began. At the second off nothing waiting outranks the running one, and no sheet changes during a
-- copy-back: so what outranks it at its commit has a later number, and the priorities of a later sheet say nothing
-- about it.
use Rattle.lib_base.proofs.Prelude.{ℕ, ◌≤◌, ◌<◌, ◌+◌, ◌-◌, ◌*◌, ◌≡◌, refl, ◌∙◌, sym, subst, true, false, Bool}
use Rattle.lib_base.proofs.Prelude.{false≢true, List, [], ◌∷◌, ◌++◌, map, append_assoc, append-nil, List-as-Permᴰ}
use Rattle.lib_base.proofs.Prelude.{Pairwise·nil, Permᴰ·refl, Pairwise, Pairwise·cons, length, take, eqb, lt-leb}
use Rattle.lib_base.proofs.Prelude.{le-leb, leb-false, leb-true, arith}
use mathlib.Core.HLevel.{→_prop}
use mathlib.Core.List.Permᴰ
use native.Mathlib.Bridge.{le_prop}
use Rattle.lib_base.specs.Basics.{All}
use Rattle.lib_base.proofs.Tools.{all_perm, all_imp, all_join, all_split, all_mem, split, by_test}
use Rattle.spec_language.specs.Syntax.{Program}
use Rattle.spec_language.specs.Valid.{Valid}
use Rattle.spec_language.specs.Code.{code, members}
use Rattle.spec_language.specs.Dependence.{events}
use Rattle.spec_execution.specs.Execution.{Values, times, copying_back_after, masked_after}
use Rattle.spec_execution.specs.CodeFacts.{CodeFacts, copying_back_at, masked_at}
use Rattle.spec_model.specs.Model.{Arrival, arrival, Running, rest, busy, Engine, engine, queue, arrive, step, board, rank, Turn, call, change, State, state, carried_to}
use Rattle.spec_model.specs.Claims.{number, in_queue, CopyingBack, in_force, engine_in, after, TakenInLater, LowerFirst, History, EachLater}
use Rattle.spec_model.specs.Sound.{Sound}
use Rattle.spec_model.proofs.Moments.{Moment, commits, moments_of, history_of_law, Commit, commit_under, commits_under, each_later}
use Rattle.spec_model.proofs.States.{number_in, hand_in}
use Rattle.spec_model.proofs.Choice.{choose_perm}
use Rattle.spec_model.proofs.Moves.{Cases}
use Rattle.spec_model.proofs.Reached.{back_perm}
use Rattle.spec_model.proofs.Once.{joins}
use Rattle.spec_model.proofs.History.{Kept, Keeps, always}
use Rattle.spec_model.proofs.Equals.{under_commit, under_change}

-- with n instructions done and the copy-back next, interrupts are not masked
at_count : (len m n : ℕ) → 4 + 2 * m ≤ len → copying_back_at len m n ≡ false → copying_back_at len m (n + 1) ≡ true → masked_at len m n ≡ false
at_count len m n h f t =
    let a : n < len - (m + 1) = leb-false (len - (m + 1)) n f in
    let b : len - (m + 1) ≤ n + 1 = leb-true (len - (m + 1)) (n + 1) t in
    rw f (by_test (λ (x : Bool). x ≡ false) (eqb n 0) (λ _. refl) (λ _. lt-leb n (m + 1) (omega arith)))

module _ (p : Program) (facts : CodeFacts p) where
  -- the last instruction stands in the copy-back
  pub last : (e n : ℕ) → e < events p → n < length (code p e) → length (code p e) ≤ n + 1 → copying_back_after (take n (code p e)) ≡ true
  last e n h k m = rw (facts.copies_back e n h k) (le-leb (length (code p e) - (members p e + 1)) n (omega arith))

  -- the instruction before the copy-back is the second off, and it is not masked
  pub at_off : (e n : ℕ) → e < events p → n + 1 < length (code p e) → copying_back_after (take n (code p e)) ≡ false
      → copying_back_after (take (n + 1) (code p e)) ≡ true → masked_after (take n (code p e)) ≡ false
  at_off e n h k f t =
      let l : n < length (code p e) = omega arith in
      rw (facts.masks e n h l) (at_count (length (code p e)) (members p e) n (facts.long e h)
      (sym (facts.copies_back e n h l) ∙ f) (sym (facts.copies_back e (n + 1) h k) ∙ t))

abbrev arrivals : List Commit → List Arrival
arrivals l = map (λ (x : Commit). x.what) l

-- what outranks a by p's priorities has no number below n
abbrev After : Program → Arrival → ℕ → Arrival → Type 0
After p a n b = rank p a < rank p b → n ≤ b.number

module _ (p₀ : Program) where
  -- ---- a moment at which the copy-back of a is under way: what outranks a, among these, has no number yet, and fewer
  -- than t are taken in

  pub record Began (past : List Turn) (p : Program) (a : Arrival) (t : ℕ) (l : List Arrival) : Type 0 where
    pub before : List Turn
    pub since : List Turn
    pub moment : past ≡ before ++ since
    pub copying : CopyingBack (in_force (after p₀ before)) a (engine_in (after p₀ before))
    pub early : number_in (after p₀ before) ≤ t
    pub behind : All (After p a (number_in (after p₀ before))) l

  -- one more turn, and other arrivals behind
  began_on : {past : List Turn} {p : Program} {a : Arrival} {t : ℕ} {l : List Arrival} (c : Turn) (s : ℕ) (m : List Arrival) → t ≤ s
      → ((n : ℕ) → n ≤ t → All (After p a n) l → All (After p a n) m) → Began past p a t l → Began (past ++ (c ∷ [])) p a s m
  began_on {past} {p} {a} {t} {l} c s m h f b = record {
    before = b.before;
    since = b.since ++ (c ∷ []);
    moment = rw b.moment (append_assoc b.before b.since (c ∷ []));
    copying = b.copying;
    early = let k : number_in (after p₀ b.before) ≤ t = b.early in omega arith;
    behind = f (number_in (after p₀ b.before)) b.early b.behind;
  }

  -- each commit began its copy-back, with those after it and the hand behind
  abbrev Marked : List Turn → ℕ → List Arrival → List Commit → Type 0
  Marked past t q [] = Unit {0}
  Marked past t q (x ∷ l) = Began past x.under x.what t (arrivals l ++ q) × Marked past t q l

  -- so did the running one, if its copy-back is under way
  abbrev Turned : List Turn → ℕ → List Arrival → Program → Running → Type 0
  Turned past t waiting p rest = Unit {0}
  Turned past t waiting p (busy a c) = copying_back_after (take c (code p a.event)) ≡ true → Began past p a t waiting

  abbrev TurnedIn : List Turn → Program → Engine → Type 0
  TurnedIn past p (engine t waiting r d) = Turned past t waiting p r

  abbrev pub Lowered : List Turn → List Moment → List Arrival → State → Type 0
  Lowered past h taken s = Marked past (number_in s) (hand_in s) (commits_under p₀ h) × TurnedIn past (in_force s) (engine_in s)

  marked_same : (c : Turn) (past : List Turn) (t : ℕ) (q r : List Arrival) (log : List Commit) → List-as-Permᴰ q r → Marked past t q log → Marked (past ++ (c ∷ [])) t r log
  marked_same c past t q r [] d h = tt
  marked_same c past t q r (x ∷ l) d h =
      (began_on c t (arrivals l ++ r) (omega arith) (λ n k g. all_perm _ (Permᴰ.append_left (arrivals l) d) g) h.0, marked_same c past t q r l d h.1)

  turned_same : (c : Turn) (past : List Turn) (p : Program) (w : Engine) → TurnedIn past p w → TurnedIn (past ++ (c ∷ [])) p w
  turned_same c past p (engine t waiting rest d) h = tt
  turned_same c past p (engine t waiting (busy a n) d) h = λ e. began_on c t waiting (omega arith) (λ n k g. g) (h e)

  same : (c : Turn) (p : Program) (w : Engine) (past : List Turn) (h : List Moment) (taken : List Arrival) → Lowered past h taken (state p w)
      → Lowered (past ++ (c ∷ [])) h taken (state p w)
  same c p w past h taken i =
      (marked_same c past (number w) (in_queue w) (in_queue w) (commits_under p₀ h) (Permᴰ·refl (in_queue w)) i.0, turned_same c past p w i.1)

  same_state : (c : Turn) (s : State) (past : List Turn) (h : List Moment) (taken : List Arrival) → Lowered past h taken s → Lowered (past ++ (c ∷ [])) h taken s
  same_state c (state p w) past h taken i = same c p w past h taken i

  -- ---- an arrival

  marked_new : (c : Turn) (past : List Turn) (e who t : ℕ) (waiting : List Arrival) (r : Running) (log : List Commit) → Marked past t (queue waiting r) log
      → Marked (past ++ (c ∷ [])) (t + 1) (queue (arrival t e who ∷ waiting) r) log
  marked_new c past e who t waiting r [] h = tt
  marked_new c past e who t waiting r (x ∷ l) h = (
    began_on c (t + 1) (arrivals l ++ queue (arrival t e who ∷ waiting) r) (omega arith)
        (λ n k g. let s = all_split _ (arrivals l) (queue waiting r) g in
        all_join _ (arrivals l) _ s.0 (all_perm _ (joins (arrival t e who) waiting r) ((λ _. k), s.1))) h.0,
    marked_new c past e who t waiting r l h.1,
  )

  turned_new : (c : Turn) (past : List Turn) (e who t : ℕ) (waiting : List Arrival) (p : Program) (r : Running) → Turned past t waiting p r
      → Turned (past ++ (c ∷ [])) (t + 1) (arrival t e who ∷ waiting) p r
  turned_new c past e who t waiting p rest h = tt
  turned_new c past e who t waiting p (busy a n) h = λ q. began_on c (t + 1) (arrival t e who ∷ waiting) (omega arith) (λ n k g. ((λ _. k), g)) (h q)

  -- ---- a commit

  marked_commit : (c : Turn) (past : List Turn) (t : ℕ) (waiting : List Arrival) (p : Program) (a : Arrival) (log : List Commit)
      → Marked past t (a ∷ waiting) log → Began past p a t waiting → Marked (past ++ (c ∷ [])) t waiting (log ++ (commit_under p a ∷ []))
  marked_commit c past t waiting p a [] h b = (began_on c t waiting (omega arith) (λ n k g. g) b, tt)
  marked_commit c past t waiting p a (x ∷ l) h b = (
    began_on c t (arrivals (l ++ (commit_under p a ∷ [])) ++ waiting) (omega arith) (λ n k g. subst (All (After x.under x.what n)) (sym (regroup l)) g) h.0,
    marked_commit c past t waiting p a l h.1 b,
  )
    where
      regroup : (m : List Commit) → arrivals (m ++ (commit_under p a ∷ [])) ++ waiting ≡ arrivals m ++ (a ∷ waiting)
      regroup [] = refl
      regroup (y ∷ m) = λ i. y.what ∷ regroup m i

  -- ---- a change

  carried_marked : (p q : Program) (w : Engine) (past : List Turn) (log : List Commit) → Marked past (number w) (in_queue w) log
      → Marked (past ++ (change q ∷ [])) (number (carried_to p q w)) (in_queue (carried_to p q w)) log × TurnedIn (past ++ (change q ∷ [])) q (carried_to p q w)
  carried_marked p q (engine t waiting r d) past log h =
      (marked_same (change q) past t (queue waiting r) (queue waiting r) log (Permᴰ·refl (queue waiting r)) h, tt)

  module _ (p : Program) (facts : CodeFacts p) where
    -- the copy-back begins at this call
    begins : (past : List Turn) (t : ℕ) (waiting : List Arrival) (a : Arrival) (n : ℕ) (d : Values) → All (λ x. rank p x ≤ rank p a) waiting
        → copying_back_after (take n (code p a.event)) ≡ true → after p₀ (past ++ (call step ∷ [])) ≡ state p (engine t waiting (busy a n) d)
        → Began (past ++ (call step ∷ [])) p a t waiting
    begins past t waiting a n d u h here = record {
      before = past ++ (call step ∷ []);
      since = [];
      moment = sym (append-nil (past ++ (call step ∷ [])));
      copying = subst (λ (s : State). CopyingBack (in_force s) a (engine_in s)) (sym here) (refl, h);
      early = rw here (omega arith);
      behind = all_imp (λ x. rank p x ≤ rank p a) _ (λ x k l. absurd (omega arith)) waiting u;
    }

    calls : Cases p (Kept p₀ Lowered p)
    unfolding times
    calls = record {
      refuses = λ e who w r past h taken l here i. same (call (arrive e who)) p w past h taken i;
      takes = λ e who t waiting r d k eight m n reach past h taken l here i.
          (marked_new (call (arrive e who)) past e who t waiting r (commits_under p₀ h) i.0, turned_new (call (arrive e who)) past e who t waiting p r i.1);
      reads = λ j who w r past h taken l here i. same (call (board j who)) p w past h taken i;
      idles = λ t d r past h taken l here i. same (call step) p (engine t [] rest d) past h taken i;
      starts = λ t b m d r past h taken l here i.
          (marked_same (call step) past t (b ∷ m) _ (commits_under p₀ h) (choose_perm p b m) i.0, λ e. absurd (false≢true e));
      preempts = λ t b m a n d u o r past h taken l here i.
          (marked_same (call step) past t (a ∷ (b ∷ m)) _ (commits_under p₀ h) (back_perm p a b m) i.0, λ e. absurd (false≢true e));
      runs = λ t waiting a n d k u r past h taken l here i. (
        marked_same (call step) past t (a ∷ waiting) _ (commits_under p₀ h) (Permᴰ·refl (a ∷ waiting)) i.0,
        λ e. split (copying_back_after (take n (code p a.event))) (λ f. began_on (call step) t waiting (omega arith) (λ n k g. g) (i.1 f))
            (λ f. begins past t waiting a (n + 1) _ (u (at_off p facts a.event n r.fine.0.1 k f e)) e here),
      );
      commits = λ t waiting a n d k u r past h taken l here i.
          (rw (under_commit p₀ h a p l) (marked_commit (call step) past t waiting p a (commits_under p₀ h) i.0 (i.1 (last p facts a.event n r.fine.0.1 r.done.0 k))), tt);
    }

  keeps : Keeps p₀ Lowered
  keeps = record {
    calls = calls;
    refuses = λ q past h taken s i. same_state (change q) s past h taken i;
    carries = λ p q w v z r u f past h taken l i. rw (under_change p₀ h q) (carried_marked p q w past (commits_under p₀ h) i.0);
  }

  -- ---- as it is read

  -- what was behind a when its copy-back began came later
  behind_later : (ts : List Turn) (p : Program) (a : Arrival) (t : ℕ) (l : List Arrival) (b : Began ts p a t l) (x : Arrival)
      → After p a (number_in (after p₀ b.before)) x → rank p a < rank p x → TakenInLater p₀ ts a x
  behind_later ts p a t l b x k r = record { past = b.before; rest_of = b.since; moment = b.moment; copying = b.copying; not_yet = k r }

  spread : (P : Arrival → Type 0) (l : List Commit) → All P (arrivals l) → All (λ (x : Commit). P x.what) l
  spread P [] h = tt
  spread P (x ∷ l) h = (h.0, spread P l h.1)

  -- of a lower priority, by those of q, b was taken in later
  abbrev Lower : List Turn → Program → Arrival → Arrival → Type 0
  Lower ts q a b = rank q a < rank q b → TakenInLater p₀ ts a b

  laters : (ts : List Turn) (t : ℕ) (q : List Arrival) (log : List Commit) → Marked ts t q log
      → Pairwise (λ (x y : Commit). Lower ts x.under x.what y.what) log × All (λ (x : Commit). All (Lower ts x.under x.what) q) log
  laters ts t q [] h = (Pairwise·nil, tt)
  laters ts t q (x ∷ l) h =
      let b = h.0 in
      let s = all_split (After x.under x.what (number_in (after p₀ b.before))) (arrivals l) q b.behind in
      let r = laters ts t q l h.1 in
      let later = behind_later ts x.under x.what t (arrivals l ++ q) b in (
        Pairwise·cons (λ y m. later y.what (all_mem (λ (z : Commit). After x.under x.what (number_in (after p₀ b.before)) z.what) (λ z. →_prop le_prop) l (spread _ l s.0) y m)) r.0,
        (all_imp _ _ later q s.1, r.1),
      )

  pub lower_first : Valid p₀ → (ts : List Turn) → All Sound ts → LowerFirst p₀ ts
  unfolding commits_under
  lower_first v ts g =
      let m : List Moment = moments_of p₀ ts in
      let hand : List Arrival = hand_in (after p₀ ts) in
      let r = laters ts (number_in (after p₀ ts)) hand (commits_under p₀ m) (always p₀ Lowered keeps v (tt, tt) ts g).0 in
      subst (λ (h : History). EachLater (Lower ts) p₀ h hand) (sym (history_of_law p₀ ts)) (each_later (Lower ts) p₀ m hand r.0 r.1)
