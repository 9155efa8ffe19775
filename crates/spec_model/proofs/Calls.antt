-- Lists of calls under one program, which is what turns are while no sheet is changed: their answers, what these say,
-- and what one call adds to it.
use Rattle.lib_base.proofs.Prelude.{ℕ, ◌≤◌, ◌+◌, suc, ◌≡◌, refl, ◌∙◌, sym, ap, List, [], ◌∷◌, ◌++◌, append_assoc, arith}
use Rattle.spec_language.specs.Syntax.{Program}
use Rattle.spec_model.specs.Model.{Arrival, arrival, Engine, Call, arrive, step, board, Answer, refused, told_taken_in, shows, idle, ran, started, preempted, committed, act, run}
use Rattle.spec_model.specs.Claims.{if_taken, number, after}
use Rattle.spec_model.proofs.Moves.{Effect, nothing, took, commit, said_by, effect, Cases, act_by}

unfoldable pub step_count : List Call → ℕ
step_count [] = 0
step_count (arrive e who ∷ cs) = step_count cs
step_count (step ∷ cs) = suc (step_count cs)
step_count (board i who ∷ cs) = step_count cs

unfoldable pub answers : Program → List Call → Engine → List Answer
answers p [] w = []
answers p (c ∷ cs) w = (act p c w).answer ∷ answers p cs (act p c w).after

abbrev pub if_committed : Answer → List Arrival → List Arrival
if_committed (refused n) l = l
if_committed told_taken_in l = l
if_committed (shows v) l = l
if_committed idle l = l
if_committed ran l = l
if_committed (started a) l = l
if_committed (preempted a) l = l
if_committed (committed a m) l = a ∷ l

unfoldable pub commits_of : List Answer → List Arrival
commits_of [] = []
commits_of (a ∷ l) = if_committed a (commits_of l)

unfoldable pub taken_from : List Call → List Answer → ℕ → List Arrival
taken_from [] l n = []
taken_from (c ∷ cs) [] n = []
taken_from (c ∷ cs) (a ∷ l) n = if_taken c a n (taken_from cs l)

-- commits, arrivals taken in and the number taken in, with an effect
abbrev pub logged : Effect → List Arrival → List Arrival
logged nothing l = l
logged (took a) l = l
logged (commit a) l = l ++ (a ∷ [])

abbrev pub gathered : Effect → List Arrival → List Arrival
gathered nothing l = l
gathered (took a) l = l ++ (a ∷ [])
gathered (commit a) l = l

abbrev pub counted : Effect → ℕ → ℕ
counted nothing n = n
counted (took a) n = n + 1
counted (commit a) n = n

pub commits_logged : (c : Call) (x : Answer) (n : ℕ) (log l : List Arrival) → log ++ if_committed x l ≡ logged (effect c x n) log ++ l
commits_logged c (refused k) n log l = refl
commits_logged (arrive e who) told_taken_in n log l = refl
commits_logged step told_taken_in n log l = refl
commits_logged (board i who) told_taken_in n log l = refl
commits_logged c (shows v) n log l = refl
commits_logged c idle n log l = refl
commits_logged c ran n log l = refl
commits_logged c (started a) n log l = refl
commits_logged c (preempted a) n log l = refl
commits_logged c (committed a m) n log l = sym (append_assoc log (a ∷ []) l)

-- with no newcomer
none_gathered : (x : Answer) (n : ℕ) (taken : List Arrival) (l : ℕ → List Arrival)
    → taken ++ l n ≡ gathered (said_by x nothing) taken ++ l (counted (said_by x nothing) n)
none_gathered (refused k) n taken l = refl
none_gathered told_taken_in n taken l = refl
none_gathered (shows v) n taken l = refl
none_gathered idle n taken l = refl
none_gathered ran n taken l = refl
none_gathered (started a) n taken l = refl
none_gathered (preempted a) n taken l = refl
none_gathered (committed a m) n taken l = refl

pub taken_gathered : (c : Call) (x : Answer) (n : ℕ) (taken : List Arrival) (l : ℕ → List Arrival)
    → taken ++ if_taken c x n l ≡ gathered (effect c x n) taken ++ l (counted (effect c x n) n)
taken_gathered (arrive e who) (refused k) n taken l = refl
taken_gathered (arrive e who) told_taken_in n taken l =
    let s : suc n ≡ n + 1 = omega arith in
    sym (append_assoc taken (arrival n e who ∷ []) (l (suc n))) ∙ ap (λ (k : ℕ). (taken ++ (arrival n e who ∷ [])) ++ l k) s
taken_gathered (arrive e who) (shows v) n taken l = refl
taken_gathered (arrive e who) idle n taken l = refl
taken_gathered (arrive e who) ran n taken l = refl
taken_gathered (arrive e who) (started a) n taken l = refl
taken_gathered (arrive e who) (preempted a) n taken l = refl
taken_gathered (arrive e who) (committed a m) n taken l = refl
taken_gathered step x n taken l = none_gathered x n taken l
taken_gathered (board i who) x n taken l = none_gathered x n taken l

-- ---- the number taken in

module _ (p : Program) where
  abbrev Counts : Call → Engine → Effect → Engine → Type 0
  Counts c w x v = number v ≡ counted x (number w)

  counts : Cases p Counts
  counts = record {
    refuses = λ e who w. refl;
    takes = λ e who t waiting r d k eight m n. refl;
    reads = λ i who w. refl;
    idles = λ t d. refl;
    starts = λ t b l d. refl;
    preempts = λ t b l a n d u o. refl;
    runs = λ t waiting a n d k u. refl;
    commits = λ t waiting a n d k u. refl;
  }

  pub act_number : (c : Call) (w : Engine) → number (act p c w).after ≡ counted (effect c (act p c w).answer (number w)) (number w)
  act_number c w = act_by p Counts counts c w

  counted_more : (x : Effect) (n : ℕ) → n ≤ counted x n
  counted_more nothing n = omega arith
  counted_more (took a) n = omega arith
  counted_more (commit a) n = omega arith

  pub act_grows : (c : Call) (w : Engine) → number w ≤ number (act p c w).after
  act_grows c w = rw (act_number c w) (counted_more (effect c (act p c w).answer (number w)) (number w))

  pub run_grows : (cs : List Call) (w : Engine) → number w ≤ number (run p cs w)
  unfolding run
  run_grows [] w = omega arith
  run_grows (c ∷ cs) w = omega (arith, act_grows c w, run_grows cs (act p c w).after)
