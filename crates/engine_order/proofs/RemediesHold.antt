-- The host's remedies hold. Equal commits: the rules lead to one board. One by one: with at most one in hand what is
-- taken in is what is committed and then what is in hand, as lists, by cases of what a call does to such an engine.
use Rattle.lib_base.proofs.Prelude.{ℕ, ◌+◌, ◌≡◌, refl, ◌∙◌, sym, ap, subst, true, false, true≢false, List, [], ◌∷◌}
use Rattle.lib_base.proofs.Prelude.{◌++◌, map, append_assoc, append-nil, get_or}
use Rattle.spec_language.specs.Code.{off, code}
use Rattle.spec_language.specs.Syntax.{Program}
use Rattle.spec_execution.specs.Execution.{Values, execute}
use Rattle.spec_semantics.specs.Meaning.{fresh}
use Rattle.spec_semantics.specs.Plays.{Plays}
use Rattle.spec_model.specs.Model.{Arrival, arrival, Running, rest, busy, Engine, engine, initial, Call, arrive, step, board, Answer, refused, told_taken_in, shows, idle, ran, started, preempted, committed, choose, begin, act, call, State, state, turn, run_turns, replies, begun}
use Rattle.spec_model.specs.Claims.{number, in_queue, engine_in, IdleIn, after, engine_after, copy_back_in, committed_in, taken_in_by, events_of}
use Rattle.spec_model.proofs.Moments.{Moment, answered, moments, arrivals_committed, committed_in_law}
use Rattle.spec_model.proofs.Moves.{Effect, effect, Cases, act_by}
use Rattle.spec_model.proofs.Calls.{logged, gathered}
use Rattle.spec_model.proofs.Once.{idle_empty}
use Rattle.back_compile.specs.Compiled.{program_of}
use Rattle.refine_calls.specs.Refinement.{calls, Bytes, turn_on_bytes, bytes_after}
use Rattle.refine_calls.proofs.TurnsRefine.{Stand, turned}
use Rattle.refine_lists.specs.Lists.{board_of, fresh_round_on, OnlyCalls}
use Rattle.refine_lists.proofs.Standing.{idle_both}
use Rattle.refine_lists.proofs.FromSheets.{stands_fresh, calls_of_law}
use Rattle.engine_order.specs.Remedies.{EqualCommits, Patiently, AsHandedIn, BothPatiently}
use Rattle.engine_order.proofs.Blocks.{taken_by, none_takes, first_takes}

-- ---- the same commits

pub same_commits : EqualCommits
same_commits s ps qs t₀ l₀ t₁ l₁ x r cs ds same fc fd =
    let p : Program = program_of ps x in
    let a = calls_of_law s ps t₀ l₀ x r.one cs in
    let b : OnlyCalls p l₁ (fresh_round_on s qs t₁ l₁) ds =
    subst (λ (q : Program). OnlyCalls q l₁ (fresh_round_on s qs t₁ l₁) ds) r.filled (calls_of_law s qs t₁ l₁ x r.other ds) in
    let A : List ℕ = board_of p (bytes_after (map calls cs) (fresh_round_on s ps t₀ l₀)).round in
    b.board_alone fd A (subst (λ (es : List ℕ). Plays p es (fresh p) A) same (a.board fc))

-- ---- one by one

-- at most one in hand
abbrev Few : Engine → Type 0
Few (engine t [] r d) = Unit {0}
Few (engine t (b ∷ []) rest d) = Unit {0}
Few (engine t (b ∷ []) (busy a c) d) = ⊥
Few (engine t (b ∷ c ∷ l) r d) = ⊥

-- an arrival comes to an empty hand
abbrev Calmly : Call → Engine → Type 0
Calmly (arrive e who) w = in_queue w ≡ []
Calmly step w = Unit {0}
Calmly (board i who) w = Unit {0}

-- in hand and newly taken in is committed and in hand
abbrev Moves : Call → Engine → Effect → Engine → Type 0
Moves c w x v = Few w → Calmly c w → Few v × (in_queue w ++ gathered x [] ≡ logged x [] ++ in_queue v)

some_in_hand : (a : Arrival) (l : List Arrival) → a ∷ l ≡ [] → ⊥
some_in_hand a l h = let e : true ≡ false = cc in true≢false e

takes_one : (a : Arrival) (t n : ℕ) (waiting : List Arrival) (r : Running) (d : Values) → in_queue (engine t waiting r d) ≡ []
    → Few (engine n (a ∷ waiting) r d) × (in_queue (engine t waiting r d) ++ (a ∷ []) ≡ in_queue (engine n (a ∷ waiting) r d))
takes_one a t n [] rest d h = (tt, refl)
takes_one a t n [] (busy b c) d h = absurd (some_in_hand b [] h)
takes_one a t n (b ∷ l) rest d h = absurd (some_in_hand b l h)
takes_one a t n (b ∷ l) (busy c k) d h = absurd (some_in_hand c (b ∷ l) h)

-- the commits of a history with one more call in front
commits_first : (c : Call) (x : Answer) (n : ℕ) (h : List Moment) → arrivals_committed (answered x h) ≡ logged (effect c x n) [] ++ arrivals_committed h
commits_first c (refused k) n h = refl
commits_first (arrive e who) told_taken_in n h = refl
commits_first step told_taken_in n h = refl
commits_first (board i who) told_taken_in n h = refl
commits_first c (shows v) n h = refl
commits_first c idle n h = refl
commits_first c ran n h = refl
commits_first c (started a) n h = refl
commits_first c (preempted a) n h = refl
commits_first c (committed a m) n h = refl

module _ (p : Program) where
  starts_one : (t : ℕ) (b : Arrival) (l : List Arrival) (d : Values) → Few (engine t (b ∷ l) rest d)
      → Few (begin p t (choose p b l) d) × ((b ∷ l) ++ [] ≡ in_queue (begin p t (choose p b l) d))
  starts_one t b [] d f = (tt, refl)
  starts_one t b (c ∷ l) d f = absurd f

  none_preempts : (t : ℕ) (b : Arrival) (l : List Arrival) (a : Arrival) (n : ℕ) (d : Values) → Few (engine t (b ∷ l) (busy a n) d) → ⊥
  none_preempts t b [] a n d f = f
  none_preempts t b (c ∷ l) a n d f = f

  runs_one : (t : ℕ) (waiting : List Arrival) (a : Arrival) (n m : ℕ) (d e : Values) → Few (engine t waiting (busy a n) d) → Few (engine t waiting (busy a m) e)
  runs_one t [] a n m d e f = tt
  runs_one t (b ∷ []) a n m d e f = f
  runs_one t (b ∷ c ∷ l) a n m d e f = f

  commits_one : (t : ℕ) (waiting : List Arrival) (a : Arrival) (n : ℕ) (d e : Values) → Few (engine t waiting (busy a n) d)
      → Few (engine t waiting rest e) × ((a ∷ waiting) ++ [] ≡ (a ∷ []) ++ waiting)
  commits_one t [] a n d e f = (tt, refl)
  commits_one t (b ∷ []) a n d e f = absurd f
  commits_one t (b ∷ c ∷ l) a n d e f = absurd f

  moves : Cases p Moves
  moves = record {
    refuses = λ e who w f k. (f, append-nil (in_queue w));
    takes = λ e who t waiting r d _ _ _ _ f k. takes_one (arrival t e who) t (t + 1) waiting r d k;
    reads = λ i who w f k. (f, append-nil (in_queue w));
    idles = λ t d f k. (tt, refl);
    starts = λ t b l d f k. starts_one t b l d f;
    preempts = λ t b l a n d _ _ f k. absurd (none_preempts t b l a n d f);
    runs = λ t waiting a n d _ _ f k. (runs_one t waiting a n (n + 1) d (execute (get_or (code p a.event) n off) d) f, append-nil (a ∷ waiting));
    commits = λ t waiting a n d _ _ f k. commits_one t waiting a n d (execute (get_or (code p a.event) n off) d) f;
  }

  -- ---- lists

  abbrev Patient : List Call → Engine → Type 0
  Patient [] w = Unit {0}
  Patient (c ∷ cs) w = Calmly c w × Patient cs (act p c w).after

  abbrev committed_from : List Call → State → List Arrival
  committed_from cs s = arrivals_committed (moments (map call cs) (replies (map call cs) s))

  in_turn_law : (cs : List Call) (w : Engine) → Few w → Patient cs w
      → in_queue w ++ taken_by (map call cs) (state p w) ≡ committed_from cs (state p w) ++ in_queue (engine_in (run_turns (map call cs) (state p w)))
  unfolding moments replies run_turns turn
  in_turn_law [] w f k = ap (λ (l : List Arrival). in_queue w ++ l) (none_takes (state p w)) ∙ append-nil (in_queue w)
  in_turn_law (c ∷ cs) w f k =
      let x : Answer = (act p c w).answer in
      let v : Engine = (act p c w).after in
      let m = act_by p Moves moves c w f k.0 in
      let G : List Arrival = gathered (effect c x (number w)) [] in
      let L : List Arrival = logged (effect c x (number w)) [] in
      let T : List Arrival = taken_by (map call cs) (state p v) in
      let C : List Arrival = committed_from cs (state p v) in
      let Q : List Arrival = in_queue (engine_in (run_turns (map call cs) (state p v))) in
      ap (λ (l : List Arrival). in_queue w ++ l) (first_takes (call c) (map call cs) (state p w))
      ∙ sym (append_assoc (in_queue w) G T) ∙ ap (λ (l : List Arrival). l ++ T) m.1 ∙ append_assoc L (in_queue v) T
      ∙ ap (λ (l : List Arrival). L ++ l) (in_turn_law cs v m.0 k.1) ∙ sym (append_assoc L C Q)
      ∙ ap (λ (l : List Arrival). l ++ Q) (sym (commits_first c x (number w) (moments (map call cs) (replies (map call cs) (state p v)))))

-- ---- of the bytes

patient : (l₀ : List ℕ) (p : Program) (cs : List Call) (b : Bytes) (w : Engine) → Stand l₀ b (state p w) → Patiently cs b → Patient p cs w
unfolding turn turn_on_bytes
patient l₀ p [] b w h o = tt
patient l₀ p (arrive e who ∷ cs) b w h o =
    (idle_empty p w ((idle_both l₀ b (state p w) h).0 o.0), patient l₀ p cs _ _ (turned l₀ b (calls (arrive e who)) (state p w) (call (arrive e who)) refl h).stand o.1)
patient l₀ p (step ∷ cs) b w h o = (tt, patient l₀ p cs _ _ (turned l₀ b (calls step) (state p w) (call step) refl h).stand o)
patient l₀ p (board i who ∷ cs) b w h o =
    (tt, patient l₀ p cs _ _ (turned l₀ b (calls (board i who)) (state p w) (call (board i who)) refl h).stand o)

empty_hand : (s : State) → IdleIn s → in_queue (engine_in s) ≡ []
empty_hand (state p w) h = idle_empty p w h

pub as_handed_in : AsHandedIn
as_handed_in s ps t₀ l₀ x r cs o i =
    let p : Program = program_of ps x in
    let idle_now : IdleIn (after p (map call cs)) = (calls_of_law s ps t₀ l₀ x r cs).list.idle.0 i in
    let k = in_turn_law p cs (initial p) tt (patient l₀ p cs (fresh_round_on s ps t₀ l₀) (initial p) (stands_fresh s ps t₀ l₀ x r) o) in
    committed_in_law p (map call cs)
    ∙ sym (append-nil (committed_from p cs (begun p)))
    ∙ ap (λ (l : List Arrival). committed_from p cs (begun p) ++ l) (sym (empty_hand (after p (map call cs)) idle_now))
    ∙ sym k

no_copy_back : (p : Program) (w : Engine) → in_queue w ≡ [] → copy_back_in p w ≡ false
no_copy_back p (engine t waiting rest d) h = refl
no_copy_back p (engine t waiting (busy a c) d) h = cc

pub both : BothPatiently
both s ps qs t₀ l₀ t₁ l₁ x r cs ds oc od same ic id =
    let p : Program = program_of ps x in
    let a = as_handed_in s ps t₀ l₀ x r.one cs oc ic in
    let b : committed_in p (map call ds) ≡ taken_in_by p (map call ds) =
    subst (λ (q : Program). committed_in q (map call ds) ≡ taken_in_by q (map call ds)) r.filled (as_handed_in s qs t₁ l₁ x r.other ds od id) in
    let ha : IdleIn (after p (map call cs)) = (calls_of_law s ps t₀ l₀ x r.one cs).list.idle.0 ic in
    let hb : IdleIn (after p (map call ds)) =
    subst (λ (q : Program). IdleIn (after q (map call ds))) r.filled ((calls_of_law s qs t₁ l₁ x r.other ds).list.idle.0 id) in
    same_commits s ps qs t₀ l₀ t₁ l₁ x r cs ds (ap events_of a ∙ same ∙ ap events_of (sym b))
    (no_copy_back p (engine_after p (map call cs)) (empty_hand (after p (map call cs)) ha))
    (no_copy_back p (engine_after p (map call ds)) (empty_hand (after p (map call ds)) hb))
