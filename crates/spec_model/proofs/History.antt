-- What each turn keeps, of a state with its history, holds after every list of turns. A call makes one of model's moves
-- under the program in force; a change is refused and leaves all as it is, or carries the engine to the new program. By
-- induction on the turns still to come, those made being a parameter.
use Rattle.lib_base.proofs.Prelude.{ℕ, ◌<◌, ◌+◌, ◌≡◌, refl, ◌∙◌, sym, ap, subst, true, false, List, [], ◌∷◌, ◌++◌}
use Rattle.lib_base.proofs.Prelude.{append_assoc, append-nil, ltb, ltb-true}
use Rattle.lib_base.specs.Basics.{All}
use Rattle.lib_base.proofs.Tools.{by_test, through}
use Rattle.spec_language.specs.Syntax.{Program}
use Rattle.spec_language.specs.Valid.{Valid}
use Rattle.spec_language.specs.Dependence.{events}
use Rattle.spec_language.specs.Refusals as refusals
use Rattle.spec_execution.specs.Execution.{emptied}
use Rattle.spec_execution.specs.CodeFacts.{CodeFacts}
use Rattle.spec_execution.proofs.CodeRight.{code_facts}
use Rattle.spec_model.specs.Carried.{carried}
use Rattle.spec_model.specs.Model.{Arrival, Engine, engine, queue, Call, arrive, step, board, Answer, refused, told_taken_in, shows, idle, ran, started, preempted, committed, in_copy_back, act, Turn, call, change, State, state, Reply, says, carried_over, TurnOutcome, turn_outcome, declared_in, carried_to, turn, run_turns, replies, begun}
use Rattle.spec_model.specs.Claims.{number, in_queue, copy_back_in, if_taken_in, taken_turns, in_force, after, taken_in_by}
use Rattle.spec_model.specs.Sound.{Sound}
use Rattle.spec_model.proofs.Moments.{Moment, commits, changes, answered, moment_of, moments, moments_of}
use Rattle.spec_model.proofs.States.{number_in}
use Rattle.spec_model.proofs.Carries.{length_carried}
use Rattle.spec_model.proofs.Moves.{Effect, nothing, took, commit, effect, Cases, act_by}
use Rattle.spec_model.proofs.Reached.{Fine, Reached, act_keeps, initially}
use Rattle.spec_model.proofs.Calls.{gathered, counted, taken_gathered, act_number}

-- ---- the history with a turn

abbrev pub noted : Effect → List Moment → List Moment
noted nothing h = h
noted (took a) h = h
noted (commit a) h = h ++ (commits a ∷ [])

abbrev pub log_turn : Turn → Reply → ℕ → List Moment → List Moment
log_turn (call c) (says x) n h = noted (effect c x n) h
log_turn (call c) carried_over n h = h
log_turn (change q) (says x) n h = h
log_turn (change q) carried_over n h = h ++ (changes q ∷ [])

abbrev pub take_turn : Turn → Reply → ℕ → List Arrival → List Arrival
take_turn (call c) (says x) n l = gathered (effect c x n) l
take_turn (call c) carried_over n l = l
take_turn (change q) r n l = l

abbrev pub count_turn : Turn → Reply → ℕ → ℕ
count_turn (call c) (says x) n = counted (effect c x n) n
count_turn (call c) carried_over n = n
count_turn (change q) r n = n

commits_noted : (c : Call) (x : Answer) (n : ℕ) (h l : List Moment) → h ++ answered x l ≡ noted (effect c x n) h ++ l
commits_noted c (refused k) n h l = refl
commits_noted (arrive e who) told_taken_in n h l = refl
commits_noted step told_taken_in n h l = refl
commits_noted (board i who) told_taken_in n h l = refl
commits_noted c (shows v) n h l = refl
commits_noted c idle n h l = refl
commits_noted c ran n h l = refl
commits_noted c (started a) n h l = refl
commits_noted c (preempted a) n h l = refl
commits_noted c (committed a m) n h l = sym (append_assoc h (commits a ∷ []) l)

log_turn_law : (t : Turn) (r : Reply) (n : ℕ) (h l : List Moment) → h ++ moment_of t r l ≡ log_turn t r n h ++ l
log_turn_law (call c) (says x) n h l = commits_noted c x n h l
log_turn_law (call c) carried_over n h l = refl
log_turn_law (change q) (says x) n h l = refl
log_turn_law (change q) carried_over n h l = sym (append_assoc h (changes q ∷ []) l)

take_turn_law : (t : Turn) (r : Reply) (n : ℕ) (taken : List Arrival) (l : ℕ → List Arrival) → taken ++ if_taken_in t r n l ≡ take_turn t r n taken ++ l (count_turn t r n)
take_turn_law (call c) (says x) n taken l = taken_gathered c x n taken l
take_turn_law (call c) carried_over n taken l = refl
take_turn_law (change q) r n taken l = refl

pub runs_append : (ts us : List Turn) (s : State) → run_turns (ts ++ us) s ≡ run_turns us (run_turns ts s)
unfolding run_turns
runs_append [] us s = refl
runs_append (t ∷ ts) us s = runs_append ts us (turn t s).after

-- ---- what the tests of a change say

pub all_declared : (q : Program) (l : List Arrival) → declared_in q l ≡ true → All (λ a. a.event < events q) l
all_declared q [] h = tt
all_declared q (a ∷ l) h = let k = through (ltb a.event (events q)) (declared_in q l) h in (ltb-true _ _ k.0, all_declared q l k.1)

pub change_by : (p q : Program) (w : Engine) (P : TurnOutcome → Type 0) → ((x : Answer) → P (turn_outcome (says x) (state p w)))
    → (copy_back_in p w ≡ false → All (λ a. a.event < events q) (in_queue w) → P (turn_outcome carried_over (state q (carried_to p q w))))
    → P (turn (change q) (state p w))
unfolding turn
change_by p q (engine t waiting r d) P refuse carry =
    by_test P (in_copy_back p r) (λ _. refuse (refused refusals.settling))
    (λ u. by_test P (declared_in q (queue waiting r)) (λ e. carry u (all_declared q (queue waiting r) e)) (λ _. refuse (refused refusals.undeclared_in_hand)))

number_carried : (p q : Program) (w : Engine) → number (carried_to p q w) ≡ number w
number_carried p q (engine t waiting r d) = refl

pub number_turn : (t : Turn) (s : State) → number_in (turn t s).after ≡ count_turn t (turn t s).reply (number_in s)
unfolding turn
number_turn (call c) (state p w) = act_number p c w
number_turn (change q) (state p w) =
    change_by p q w (λ (o : TurnOutcome). number_in o.after ≡ number w) (λ x. refl) (λ u f. number_carried p q w)

-- ---- a valid program in force, and an engine that it reaches

abbrev pub Fit : State → Type 0
Fit (state p w) = Valid p × Reached p w

redeclared : (p q : Program) (t : ℕ) (l : List Arrival) → All (Fine p t) l → All (λ a. a.event < events q) l → All (Fine q t) l
redeclared p q t [] f h = tt
redeclared p q t (a ∷ l) f h = ((f.0.0, h.0, f.0.2), redeclared p q t l f.1 h.1)

pub reached_carried : (p q : Program) (w : Engine) → Reached p w → All (λ a. a.event < events q) (in_queue w) → Reached q (carried_to p q w)
unfolding emptied
reached_carried p q (engine t waiting r d) h f = record {
  fine = redeclared p q t (queue waiting r) h.fine f;
  distinct = h.distinct;
  few = h.few;
  bounded = h.bounded;
  from = carried p q d.store;
  sized = length_carried p q d.store;
  done = refl;
}

pub turn_fits : (t : Turn) (s : State) → Sound t → Fit s → Fit (turn t s).after
unfolding turn
turn_fits (call c) (state p w) g h = (h.0, act_keeps p (code_facts p h.0) c w h.1)
turn_fits (change q) (state p w) g h =
    change_by p q w (λ (o : TurnOutcome). Fit o.after) (λ x. h) (λ u f. (g, reached_carried p q w h.1 f))

pub runs_fit : (ts : List Turn) (s : State) → All Sound ts → Fit s → Fit (run_turns ts s)
unfolding run_turns
runs_fit [] s g h = h
runs_fit (t ∷ ts) s g h = runs_fit ts (turn t s).after g.1 (turn_fits t s g.0 h)

pub begun_fits : (p : Program) → Valid p → Fit (begun p)
begun_fits p v = (v, initially p (code_facts p v))

pub fits : (p : Program) → Valid p → (ts : List Turn) → All Sound ts → Fit (after p ts)
fits p v ts g = runs_fit ts (begun p) g (begun_fits p v)

-- ---- the program in force at the end of a history

unfoldable pub last_of : Program → List Moment → Program
last_of p [] = p
last_of p (commits a ∷ h) = last_of p h
last_of p (changes q ∷ h) = last_of q h

pub last_commits : (p : Program) (h : List Moment) (a : Arrival) → last_of p (h ++ (commits a ∷ [])) ≡ last_of p h
unfolding last_of
last_commits p [] a = refl
last_commits p (commits b ∷ h) a = last_commits p h a
last_commits p (changes q ∷ h) a = last_commits q h a

last_changes : (p : Program) (h : List Moment) (q : Program) → last_of p (h ++ (changes q ∷ [])) ≡ q
unfolding last_of
last_changes p [] q = refl
last_changes p (commits b ∷ h) q = last_changes p h q
last_changes p (changes r ∷ h) q = last_changes r h q

last_noted : (p : Program) (x : Effect) (h : List Moment) → last_of p (noted x h) ≡ last_of p h
last_noted p nothing h = refl
last_noted p (took a) h = refl
last_noted p (commit a) h = last_commits p h a

-- ---- what each turn keeps always holds

module _ (p₀ : Program) (Inv : List Turn → List Moment → List Arrival → State → Type 0) where
  -- of a call under p: the turns made, their history, the arrivals taken in and the state
  abbrev pub Kept : Program → Call → Engine → Effect → Engine → Type 0
  Kept p c w x v =
      Reached p w → (past : List Turn) (h : List Moment) (taken : List Arrival) → last_of p₀ h ≡ p → after p₀ (past ++ (call c ∷ [])) ≡ state p v
      → Inv past h taken (state p w) → Inv (past ++ (call c ∷ [])) (noted x h) (gathered x taken) (state p v)

  pub record Keeps : Type 0 where
    pub calls : (p : Program) → CodeFacts p → Cases p (Kept p)
    pub refuses : (q : Program) (past : List Turn) (h : List Moment) (taken : List Arrival) (s : State) → Inv past h taken s → Inv (past ++ (change q ∷ [])) h taken s
    pub carries : (p q : Program) (w : Engine) → Valid p → Valid q → Reached p w → copy_back_in p w ≡ false → All (λ a. a.event < events q) (in_queue w)
        → (past : List Turn) (h : List Moment) (taken : List Arrival) → last_of p₀ h ≡ p → Inv past h taken (state p w)
        → Inv (past ++ (change q ∷ [])) (h ++ (changes q ∷ [])) taken (state q (carried_to p q w))

  module _ (keeps : Keeps) where
    abbrev Holds : List Turn → List Moment → List Arrival → State → Type 0
    Holds past h taken s = (last_of p₀ h ≡ in_force s) × Inv past h taken s

    kept_turn : (t : Turn) (s : State) → Sound t → Fit s → (past : List Turn) (h : List Moment) (taken : List Arrival)
        → after p₀ (past ++ (t ∷ [])) ≡ (turn t s).after → Holds past h taken s
        → Holds (past ++ (t ∷ [])) (log_turn t (turn t s).reply (number_in s) h) (take_turn t (turn t s).reply (number_in s) taken) (turn t s).after
    unfolding turn
    kept_turn (call c) (state p w) g f past h taken here i = (
      last_noted p₀ (effect c (act p c w).answer (number w)) h ∙ i.0,
      act_by p (Kept p) (keeps.calls p (code_facts p f.0)) c w f.1 past h taken i.0 here i.1,
    )
    kept_turn (change q) (state p w) g f past h taken here i =
        change_by p q w (λ (o : TurnOutcome). Holds (past ++ (change q ∷ [])) (log_turn (change q) o.reply (number w) h) (take_turn (change q) o.reply (number w) taken) o.after)
        (λ x. (i.0, keeps.refuses q past h taken (state p w) i.1))
        (λ u d. (last_changes p₀ h q, keeps.carries p q w f.0 g f.1 u d past h taken i.0 i.1))

    along : {ts us : List Turn} {h k : List Moment} {l m : List Arrival} {s : State} → ts ≡ us → h ≡ k → l ≡ m → Inv ts h l s → Inv us k m s
    along {ts} {us} {h} {k} {l} {m} {s} a b c i =
        subst (λ (x : List Turn). Inv x k m s) a (subst (λ (x : List Moment). Inv ts x m s) b (subst (λ (x : List Arrival). Inv ts h x s) c i))

    go : (ts past : List Turn) (h : List Moment) (taken : List Arrival) (s : State) → after p₀ past ≡ s → All Sound ts → Fit s → Holds past h taken s
        → Inv (past ++ ts) (h ++ moments ts (replies ts s)) (taken ++ taken_turns ts (replies ts s) (number_in s)) (run_turns ts s)
    unfolding run_turns replies moments taken_turns
    go [] past h taken s e g f i = rw (append-nil past, append-nil h, append-nil taken) i.1
    go (t ∷ ts) past h taken s e g f i =
        let v : State = (turn t s).after in
        let r : Reply = (turn t s).reply in
        let l : List Reply = replies ts v in
        let here : after p₀ (past ++ (t ∷ [])) ≡ v = runs_append past (t ∷ []) (begun p₀) ∙ ap (λ (u : State). (turn t u).after) e in
        let k = go ts (past ++ (t ∷ [])) (log_turn t r (number_in s) h) (take_turn t r (number_in s) taken) v here g.1 (turn_fits t s g.0 f)
        (kept_turn t s g.0 f past h taken here i) in
        along (append_assoc past (t ∷ []) ts) (sym (log_turn_law t r (number_in s) h (moments ts l)))
        (ap (λ (n : ℕ). take_turn t r (number_in s) taken ++ taken_turns ts l n) (number_turn t s) ∙ sym (take_turn_law t r (number_in s) taken (taken_turns ts l))) k

    pub always : Valid p₀ → Inv [] [] [] (begun p₀) → (ts : List Turn) → All Sound ts → Inv ts (moments_of p₀ ts) (taken_in_by p₀ ts) (after p₀ ts)
    unfolding run_turns last_of
    always v i ts g = go ts [] [] [] (begun p₀) refl g (begun_fits p₀ v) (refl, i)
