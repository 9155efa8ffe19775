-- Every call makes one of eight moves. What is to be shown of all calls is shown of each move, the tests of the model
-- having been followed here once.
use Rattle.lib_base.proofs.Prelude.{ℕ, ◌≤◌, ◌<◌, ◌+◌, ◌≡◌, ◌∙◌, sym, false, true≢false, List, [], ◌∷◌, Permᴰ·symm}
use Rattle.lib_base.proofs.Prelude.{length, get_or, ltb, leb, ltb-false, ltb-true, leb-false, arith}
use Rattle.lib_base.specs.Basics.{All}
use Rattle.lib_base.proofs.Tools.{by_test, all_perm, all_imp}
use Rattle.spec_language.specs.Syntax.{Program}
use Rattle.spec_language.specs.Dependence.{size, events}
use Rattle.spec_language.specs.Rights.{may_send, may_see}
use Rattle.spec_language.specs.Code.{off, code}
use Rattle.spec_execution.specs.Execution.{Values, execute}
use Rattle.spec_model.specs.Model.{Arrival, arrival, Running, rest, busy, Engine, engine, queue, Call, arrive, step, board, Answer, refused, told_taken_in, shows, idle, ran, started, preempted, committed, Outcome, rank, masked, in_copy_back, choose, aside, begin, advance, act}
use Rattle.spec_model.specs.Claims.{number}
use Rattle.spec_model.proofs.Choice.{Leads, choose_perm, choose_first}

-- what a call adds to the history: nothing, an arrival taken in, or a commit
pub data Effect : Type 0 where
  nothing : Effect
  took commit : Arrival → Effect

abbrev pub newcomer : Call → ℕ → Effect
newcomer (arrive e who) n = took (arrival n e who)
newcomer step n = nothing
newcomer (board i who) n = nothing

abbrev pub said_by : Answer → Effect → Effect
said_by (refused k) x = nothing
said_by told_taken_in x = x
said_by (shows v) x = nothing
said_by idle x = nothing
said_by ran x = nothing
said_by (started a) x = nothing
said_by (preempted a) x = nothing
said_by (committed a m) x = commit a

-- of a call with this answer, n arrivals having been taken in
abbrev pub effect : Call → Answer → ℕ → Effect
effect c a n = said_by a (newcomer c n)

module _ (p : Program) where
  -- nothing waiting outranks the running one, unless that is masked
  abbrev pub Unchallenged : List Arrival → Arrival → ℕ → Type 0
  Unchallenged waiting a n = masked p a n ≡ false → All (λ x. rank p x ≤ rank p a) waiting

  pub record Cases (P : Call → Engine → Effect → Engine → Type 0) : Type 0 where
    pub refuses : (e who : ℕ) (w : Engine) → P (arrive e who) w nothing w
    pub takes : (e who t : ℕ) (waiting : List Arrival) (r : Running) (d : Values) → e < events p → who < 8 → length (queue waiting r) < 64 → t < 1000000
        → P (arrive e who) (engine t waiting r d) (took (arrival t e who)) (engine (t + 1) (arrival t e who ∷ waiting) r d)
    pub reads : (i who : ℕ) (w : Engine) → P (board i who) w nothing w
    pub idles : (t : ℕ) (d : Values) → P step (engine t [] rest d) nothing (engine t [] rest d)
    pub starts : (t : ℕ) (b : Arrival) (l : List Arrival) (d : Values) → P step (engine t (b ∷ l) rest d) nothing (begin p t (choose p b l) d)
    pub preempts : (t : ℕ) (b : Arrival) (l : List Arrival) (a : Arrival) (n : ℕ) (d : Values) → masked p a n ≡ false
        → rank p a < rank p (choose p b l).next → P step (engine t (b ∷ l) (busy a n) d) nothing (begin p t (aside p a (choose p b l)) d)
    pub runs : (t : ℕ) (waiting : List Arrival) (a : Arrival) (n : ℕ) (d : Values) → n + 1 < length (code p a.event) → Unchallenged waiting a n
        → P step (engine t waiting (busy a n) d) nothing (engine t waiting (busy a (n + 1)) (execute (get_or (code p a.event) n off) d))
    pub commits : (t : ℕ) (waiting : List Arrival) (a : Arrival) (n : ℕ) (d : Values) → length (code p a.event) ≤ n + 1 → Unchallenged waiting a n
        → P step (engine t waiting (busy a n) d) (commit a) (engine t waiting rest (execute (get_or (code p a.event) n off) d))

  module _ (P : Call → Engine → Effect → Engine → Type 0) (m : Cases P) where
    abbrev Does : Call → Engine → Outcome → Type 0
    Does c w o = P c w (effect c o.answer (number w)) o.after

    advance_by : (t : ℕ) (waiting : List Arrival) (a : Arrival) (n : ℕ) (d : Values) → Unchallenged waiting a n
        → Does step (engine t waiting (busy a n) d) (advance p t waiting a n d)
    advance_by t waiting a n d u =
        by_test (Does step (engine t waiting (busy a n) d)) (ltb (n + 1) (length (code p a.event)))
        (λ e. m.runs t waiting a n d (ltb-true _ _ e) u)
        (λ e. m.commits t waiting a n d (ltb-false _ _ e) u)

    -- the next does not outrank, so nothing does
    unchallenged : (b : Arrival) (l : List Arrival) (a : Arrival) (n : ℕ) → rank p (choose p b l).next ≤ rank p a → Unchallenged (b ∷ l) a n
    unchallenged b l a n h =
        λ u. all_perm (λ (x : Arrival). rank p x ≤ rank p a) (Permᴰ·symm (choose_perm p b l))
        (h, all_imp (Leads p (choose p b l).next) _ (λ x k. omega arith) (choose p b l).others (choose_first p b l).1)

    pub act_by : (c : Call) (w : Engine) → Does c w (act p c w)
    unfolding act
    act_by (arrive e who) (engine t waiting r d) =
        let no = m.refuses e who (engine t waiting r d) in
        by_test (Does (arrive e who) (engine t waiting r d)) (leb 8 who) (λ _. no)
        (λ v. by_test (Does (arrive e who) (engine t waiting r d)) (leb (events p) e) (λ _. no)
        (λ x. by_test (Does (arrive e who) (engine t waiting r d)) (may_send p who e)
        (λ _. by_test (Does (arrive e who) (engine t waiting r d)) (leb 64 (length (queue waiting r))) (λ _. no)
        (λ y. by_test (Does (arrive e who) (engine t waiting r d)) (leb 1000000 t) (λ _. no)
        (λ z. m.takes e who t waiting r d (leb-false _ _ x) (leb-false _ _ v) (leb-false _ _ y) (leb-false _ _ z))))
        (λ _. no)))
    act_by (board i who) (engine t waiting r d) =
        let yes = m.reads i who (engine t waiting r d) in
        by_test (λ (x : Answer). P (board i who) (engine t waiting r d) (said_by x nothing) (engine t waiting r d)) (leb 8 who) (λ _. yes)
        (λ _. by_test (λ (x : Answer). P (board i who) (engine t waiting r d) (said_by x nothing) (engine t waiting r d)) (leb (size p) i) (λ _. yes)
        (λ _. by_test (λ (x : Answer). P (board i who) (engine t waiting r d) (said_by x nothing) (engine t waiting r d)) (may_see p who i)
        (λ _. by_test (λ (x : Answer). P (board i who) (engine t waiting r d) (said_by x nothing) (engine t waiting r d)) (in_copy_back p r) (λ _. yes) (λ _. yes))
        (λ _. yes)))
    act_by step (engine t [] rest d) = m.idles t d
    act_by step (engine t (b ∷ l) rest d) = m.starts t b l d
    act_by step (engine t [] (busy a n) d) = advance_by t [] a n d (λ u. tt)
    act_by step (engine t (b ∷ l) (busy a n) d) =
        by_test (Does step (engine t (b ∷ l) (busy a n) d)) (masked p a n)
        (λ u. advance_by t (b ∷ l) a n d (λ v. absurd (true≢false (sym u ∙ v))))
        (λ u. by_test (Does step (engine t (b ∷ l) (busy a n) d)) (ltb (rank p a) (rank p (choose p b l).next))
        (λ x. m.preempts t b l a n d u (ltb-true _ _ x))
        (λ x. advance_by t (b ∷ l) a n d (unchallenged b l a n (ltb-false _ _ x))))

  -- what follows from one claim, move by move
  pub cases_imp : (P Q : Call → Engine → Effect → Engine → Type 0)
      → ((c : Call) (w : Engine) (x : Effect) (v : Engine) → P c w x v → Q c w x v) → Cases P → Cases Q
  cases_imp P Q f m = record {
    refuses = λ e who w. f (arrive e who) w nothing w (m.refuses e who w);
    takes = λ e who t waiting r d k eight n h. f (arrive e who) _ _ _ (m.takes e who t waiting r d k eight n h);
    reads = λ i who w. f (board i who) w nothing w (m.reads i who w);
    idles = λ t d. f step _ nothing _ (m.idles t d);
    starts = λ t b l d. f step _ nothing _ (m.starts t b l d);
    preempts = λ t b l a n d u o. f step _ nothing _ (m.preempts t b l a n d u o);
    runs = λ t waiting a n d k u. f step _ nothing _ (m.runs t waiting a n d k u);
    commits = λ t waiting a n d k u. f step _ (commit a) _ (m.commits t waiting a n d k u);
  }
