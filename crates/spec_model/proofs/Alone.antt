-- From an idle round an event that is taken in and stepped alone to its commit leaves the store of its meaning under
-- the program in force, and its commit is all that their history holds. Turns that are calls alone act as model's
-- lists of calls do.
use Rattle.lib_base.proofs.Prelude.{ℕ, ◌<◌, ◌+◌, ◌-◌, suc, zero, ◌≡◌, refl, ◌∙◌, sym, ap, true, Bool, List, [], ◌∷◌}
use Rattle.lib_base.proofs.Prelude.{◌++◌, map, length, replicate, arith}
use Rattle.lib_base.specs.Basics.{All}
use Rattle.spec_language.specs.Syntax.{Program}
use Rattle.spec_language.specs.Valid.{Valid}
use Rattle.spec_language.specs.Dependence.{size, events}
use Rattle.spec_language.specs.Rights.{may_send}
use Rattle.spec_language.specs.Code.{code}
use Rattle.spec_semantics.specs.Event.{event}
use Rattle.spec_execution.specs.Execution.{Values, emptied}
use Rattle.spec_execution.specs.Runs.{execute_all}
use Rattle.spec_execution.proofs.CodeRight.{code_facts}
use Rattle.spec_model.specs.Model.{Arrival, arrival, rest, busy, Engine, engine, Call, Answer, refused, told_taken_in, shows, idle, ran, started, preempted, committed, act, run, Turn, call, change, State, state, Reply, says, carried_over, turn, run_turns, replies, begun}
use Rattle.spec_model.specs.Claims.{store_of, alone_calls, last, committed_by, in_force, IdleIn, history_from, after}
use Rattle.spec_model.specs.Sound.{Sound}
use Rattle.spec_model.specs.Evaluated.{AloneRight}
use Rattle.spec_model.proofs.Moments.{Moment, commits, answered, moment_of, moments, by_sheets, one_sheet, history_from_law, arrivals_committed, committed_from_law}
use Rattle.spec_model.proofs.States.{number_in, store_in}
use Rattle.spec_model.proofs.Calls.{answers}
use Rattle.spec_model.proofs.Once.{idle_empty}
use Rattle.spec_model.proofs.OneEvent.{alone}
use Rattle.spec_model.proofs.History.{runs_append, Fit, fits}

-- ---- the history of two lists one after the other

if_append : (x : Answer) (h k : List Moment) → answered x (h ++ k) ≡ answered x h ++ k
if_append (refused n) h k = refl
if_append told_taken_in h k = refl
if_append (shows v) h k = refl
if_append idle h k = refl
if_append ran h k = refl
if_append (started a) h k = refl
if_append (preempted a) h k = refl
if_append (committed a m) h k = refl

moment_append : (t : Turn) (r : Reply) (h k : List Moment) → moment_of t r (h ++ k) ≡ moment_of t r h ++ k
moment_append (call c) (says x) h k = if_append x h k
moment_append (call c) carried_over h k = refl
moment_append (change q) (says x) h k = refl
moment_append (change q) carried_over h k = refl

pub moments_append : (ts us : List Turn) (s : State) → moments (ts ++ us) (replies (ts ++ us) s) ≡ moments ts (replies ts s) ++ moments us (replies us (run_turns ts s))
unfolding moments replies run_turns
moments_append [] us s = refl
moments_append (t ∷ ts) us s =
    ap (moment_of t (turn t s).reply) (moments_append ts us (turn t s).after)
    ∙ moment_append t (turn t s).reply (moments ts (replies ts (turn t s).after)) (moments us (replies us (run_turns ts (turn t s).after)))

-- ---- calls alone

pub calls_run : (cs : List Call) (p : Program) (w : Engine) → run_turns (map call cs) (state p w) ≡ state p (run p cs w)
unfolding run_turns run turn
calls_run [] p w = refl
calls_run (c ∷ cs) p w = calls_run cs p (act p c w).after

-- the commits that answers name
abbrev named : List Answer → List Moment
named [] = []
named (x ∷ l) = answered x (named l)

calls_moments : (cs : List Call) (p : Program) (w : Engine) → moments (map call cs) (replies (map call cs) (state p w)) ≡ named (answers p cs w)
unfolding moments replies answers turn
calls_moments [] p w = refl
calls_moments (c ∷ cs) p w = ap (answered (act p c w).answer) (calls_moments cs p (act p c w).after)

-- so the history of calls is their commits
named_commits : (l : List Answer) → named l ≡ map commits (arrivals_committed (named l))
named_commits [] = refl
named_commits (refused n ∷ l) = named_commits l
named_commits (told_taken_in ∷ l) = named_commits l
named_commits (shows v ∷ l) = named_commits l
named_commits (idle ∷ l) = named_commits l
named_commits (ran ∷ l) = named_commits l
named_commits (started a ∷ l) = named_commits l
named_commits (preempted a ∷ l) = named_commits l
named_commits (committed a m ∷ l) = ap (λ (h : List Moment). commits a ∷ h) (named_commits l)

pub only_commits : (cs : List Call) (p : Program) (w : Engine)
    → moments (map call cs) (replies (map call cs) (state p w)) ≡ map commits (arrivals_committed (moments (map call cs) (replies (map call cs) (state p w))))
only_commits cs p w = rw (calls_moments cs p w) (named_commits (answers p cs w))

-- all under the one sheet
pub only_last : (cs : List Call) (p : Program) (w : Engine) → history_from (state p w) (map call cs) ≡ last (committed_by (history_from (state p w) (map call cs)))
only_last cs p w =
    let ms : List Moment = moments (map call cs) (replies (map call cs) (state p w)) in
    history_from_law (state p w) (map call cs) ∙ ap by_sheets (only_commits cs p w) ∙ one_sheet (arrivals_committed ms) ∙ ap last (sym (committed_from_law (state p w) (map call cs)))

named_ran : (k : ℕ) (a : Arrival) (m : Bool) → named (replicate k ran ++ (committed a m ∷ [])) ≡ commits a ∷ []
named_ran zero a m = refl
named_ran (suc k) a m = named_ran k a m

-- ---- from an idle state

abbrev Alone : State → ℕ → ℕ → Type 0
Alone s e who =
    (moments (map call (alone_calls (in_force s) e who)) (replies (map call (alone_calls (in_force s) e who)) s) ≡ commits (arrival (number_in s) e who) ∷ [])
    × (store_in (run_turns (map call (alone_calls (in_force s) e who)) s) ≡ event (in_force s) e (store_in s))

at_idle : (p : Program) → Valid p → (t : ℕ) (d : Values) (e who : ℕ) → length d.store ≡ size p → e < events p → who < 8 → may_send p who e ≡ true → t < 1000000
    → Alone (state p (engine t [] rest d)) e who
at_idle p v t d e who n b eight sends room =
    let k = alone p (code_facts p v) t e who d b eight sends room n in (
      calls_moments (alone_calls p e who) p (engine t [] rest d) ∙ ap named k.0 ∙ named_ran (length (code p e) - 1) (arrival t e who) (execute_all (code p e) (emptied d.store)).mark,
      ap store_in (calls_run (alone_calls p e who) p (engine t [] rest d)) ∙ ap store_of k.1 ∙ k.2,
    )

alone_here : (s : State) → Fit s → IdleIn s → (e who : ℕ) → e < events (in_force s) → who < 8 → may_send (in_force s) who e ≡ true → number_in s < 1000000 → Alone s e who
alone_here (state p (engine t [] rest d)) f h e who b eight sends room =
    at_idle p f.0 t d e who (ap length f.1.done ∙ f.1.sized) b eight sends room
alone_here (state p (engine t (x ∷ l) rest d)) f h e who b eight sends room =
    let z : ◌≡◌ {A = ℕ} 1 0 = cc (idle_empty p (engine t (x ∷ l) rest d) h) in absurd (omega arith)
alone_here (state p (engine t waiting (busy a c) d)) f h e who b eight sends room =
    let z : ◌≡◌ {A = ℕ} 1 0 = cc (idle_empty p (engine t waiting (busy a c) d) h) in absurd (omega arith)

module _ (p : Program) (v : Valid p) where
  pub alone_right : (ts : List Turn) → All Sound ts → AloneRight p ts
  unfolding by_sheets
  alone_right ts g h e who b eight sends room =
      let s : State = after p ts in
      let us : List Turn = map call (alone_calls (in_force s) e who) in
      let k : Alone s e who = alone_here s (fits p v ts g) h e who b eight sends room in (
        history_from_law s us ∙ ap by_sheets k.0,
        ap store_in (runs_append ts us (begun p)) ∙ k.1,
      )
