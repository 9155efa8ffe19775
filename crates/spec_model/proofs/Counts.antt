-- Counts of steps run from the last change: turns that change no sheet act as their calls do under the program in
-- force, of which the bounds hold from every engine that is reached.
use Rattle.lib_base.proofs.Prelude.{ℕ, ◌≤◌, ◌<◌, ◌+◌, suc, ◌≡◌, refl, ◌∙◌, sym, ap, subst, true, Bool, ◌≢◌, List, []}
use Rattle.lib_base.proofs.Prelude.{◌∷◌, ◌++◌, List-as-Memᴰ, length}
use Rattle.lib_base.specs.Basics.{All}
use Rattle.spec_language.specs.Syntax.{Program}
use Rattle.spec_language.specs.Valid.{Valid}
use Rattle.spec_language.specs.Dependence.{size, events}
use Rattle.spec_language.specs.Rights.{may_see}
use Rattle.spec_semantics.specs.Meaning.{at, fresh}
use Rattle.spec_semantics.specs.OverMeaning.{event_over}
use Rattle.spec_execution.proofs.CodeRight.{code_facts}
use Rattle.spec_model.specs.Model.{Arrival, arrival, Engine, Call, arrive, step, board, Answer, refused, told_taken_in, shows, idle, ran, started, preempted, committed, rank, act, run, Turn, call, change, State, state, Reply, says, carried_over, TurnOutcome, turn, run_turns, replies, begun}
use Rattle.spec_model.specs.Claims.{number, steps_of, AtRest, foreseen, if_taken_in, taken_turns, in_force, engine_in, IdleIn, after, Unchanged, steps_among, IdleWithin, QuietExactly, NobodyWaits, PreviewRight}
use Rattle.spec_model.specs.Sound.{Sound}
use Rattle.spec_model.specs.Evaluated.{MarkRight}
use Rattle.spec_model.proofs.Moments.{Moment, answered, moment_of, moments, moments_of, replayed_is, arrivals_committed, committed_from_law}
use Rattle.spec_model.proofs.States.{number_in, hand_in, store_in, count_now}
use Rattle.spec_model.proofs.Calls.{step_count, answers, commits_of, taken_from}
use Rattle.spec_model.proofs.Reached.{DoneIn}
use Rattle.spec_model.proofs.IdleWithin.{idle_from, empty}
use Rattle.spec_model.proofs.Waits.{waits_from}
use Rattle.spec_model.proofs.Quiet.{quiet_from}
use Rattle.spec_model.proofs.Previews.{preview_from}
use Rattle.spec_model.proofs.Marks.{step_right}
use Rattle.spec_model.proofs.History.{runs_append, change_by, Fit, fits}
use Rattle.spec_model.proofs.Boards.{store_after, stored}

-- ---- turns that change no sheet

-- a refused change changes nothing
refused_same : (p q : Program) (w : Engine) → (turn (change q) (state p w)).reply ≢ carried_over → (turn (change q) (state p w)).after ≡ state p w
refused_same p q w = change_by p q w (λ (o : TurnOutcome). o.reply ≢ carried_over → o.after ≡ state p w) (λ x n. refl) (λ u f n. absurd (n refl))

rest_unchanged : (p q : Program) (w : Engine) (us : List Turn) → Unchanged (change q ∷ us) (state p w) → Unchanged us (state p w)
unfolding replies
rest_unchanged p q w us h = subst (Unchanged us) (refused_same p q w h.0) h.1

-- the calls among turns, and their steps
abbrev calls_of : List Turn → List Call
calls_of [] = []
calls_of (call c ∷ ts) = c ∷ calls_of ts
calls_of (change q ∷ ts) = calls_of ts

as_steps : (us : List Turn) → steps_among us ≡ step_count (calls_of us)
unfolding steps_among step_count
as_steps [] = refl
as_steps (call (arrive e who) ∷ us) = as_steps us
as_steps (call step ∷ us) = ap suc (as_steps us)
as_steps (call (board i who) ∷ us) = as_steps us
as_steps (change q ∷ us) = as_steps us

pub as_calls : (us : List Turn) (p : Program) (w : Engine) → Unchanged us (state p w) → run_turns us (state p w) ≡ state p (run p (calls_of us) w)
unfolding run_turns run replies turn
as_calls [] p w h = refl
as_calls (call c ∷ us) p w h = as_calls us p (act p c w).after h.1
as_calls (change q ∷ us) p w h = ap (run_turns us) (refused_same p q w h.0) ∙ as_calls us p w (rest_unchanged p q w us h)

no_moment : (q : Program) (r : Reply) (l : List Moment) → r ≢ carried_over → moment_of (change q) r l ≡ l
no_moment q (says x) l h = refl
no_moment q carried_over l h = absurd (h refl)

committed_answer : (x : Answer) (h : List Moment) (l : List Answer) → arrivals_committed h ≡ commits_of l → arrivals_committed (answered x h) ≡ commits_of (x ∷ l)
unfolding commits_of
committed_answer (refused n) h l e = e
committed_answer told_taken_in h l e = e
committed_answer (shows v) h l e = e
committed_answer idle h l e = e
committed_answer ran h l e = e
committed_answer (started a) h l e = e
committed_answer (preempted a) h l e = e
committed_answer (committed a m) h l e = ap (λ (x : List Arrival). a ∷ x) e

pub as_commits : (us : List Turn) (p : Program) (w : Engine) → Unchanged us (state p w)
    → arrivals_committed (moments us (replies us (state p w))) ≡ commits_of (answers p (calls_of us) w)
unfolding moments replies answers commits_of turn
as_commits [] p w h = refl
as_commits (call c ∷ us) p w h =
    committed_answer (act p c w).answer (moments us (replies us (state p (act p c w).after))) (answers p (calls_of us) (act p c w).after)
    (as_commits us p (act p c w).after h.1)
as_commits (change q ∷ us) p w h =
    ap arrivals_committed (no_moment q (turn (change q) (state p w)).reply (moments us (replies us (turn (change q) (state p w)).after)) h.0)
    ∙ ap (λ (s : State). arrivals_committed (moments us (replies us s))) (refused_same p q w h.0) ∙ as_commits us p w (rest_unchanged p q w us h)

taken_answer : (c : Call) (x : Answer) (us : List Turn) (cs : List Call) (r : List Reply) (l : List Answer) (n : ℕ)
    → ((m : ℕ) → taken_turns us r m ≡ taken_from cs l m) → if_taken_in (call c) (says x) n (taken_turns us r) ≡ taken_from (c ∷ cs) (x ∷ l) n
unfolding taken_from
taken_answer (arrive e who) (refused k) us cs r l n h = h n
taken_answer (arrive e who) told_taken_in us cs r l n h = ap (λ (m : List Arrival). arrival n e who ∷ m) (h (suc n))
taken_answer (arrive e who) (shows v) us cs r l n h = h n
taken_answer (arrive e who) idle us cs r l n h = h n
taken_answer (arrive e who) ran us cs r l n h = h n
taken_answer (arrive e who) (started a) us cs r l n h = h n
taken_answer (arrive e who) (preempted a) us cs r l n h = h n
taken_answer (arrive e who) (committed a m) us cs r l n h = h n
taken_answer step x us cs r l n h = h n
taken_answer (board i who) x us cs r l n h = h n

pub as_taken : (us : List Turn) (p : Program) (w : Engine) (n : ℕ) → Unchanged us (state p w)
    → taken_turns us (replies us (state p w)) n ≡ taken_from (calls_of us) (answers p (calls_of us) w) n
unfolding taken_turns replies answers taken_from turn
as_taken [] p w n h = refl
as_taken (call c ∷ us) p w n h =
    taken_answer c (act p c w).answer us (calls_of us) (replies us (state p (act p c w).after)) (answers p (calls_of us) (act p c w).after) n
    (λ m. as_taken us p (act p c w).after m h.1)
as_taken (change q ∷ us) p w n h =
    ap (λ (s : State). taken_turns us (replies us s) n) (refused_same p q w h.0) ∙ as_taken us p w n (rest_unchanged p q w us h)

-- ---- from a state that fits

idle_here : (s : State) → Fit s → (us : List Turn) → Unchanged us s → number_in (run_turns us s) ≡ number_in s → count_now s ≤ steps_among us → IdleIn (run_turns us s)
idle_here (state p w) f us h e b =
    let q = as_calls us p w h in
    rw q (idle_from p (code_facts p f.0) w f.1 (calls_of us) (sym (ap number_in q) ∙ e) (rw (as_steps us) at b))

empty_here : (s : State) → Fit s → length (hand_in s) ≡ 0 → IdleIn s
empty_here (state p w) f h = empty p (code_facts p f.0) w h

quiet_here : (s : State) → Fit s → AtRest (engine_in s) → (us : List Turn) → Unchanged us s → number_in (run_turns us s) ≡ number_in s
    → (steps_among us < steps_of (in_force s) (hand_in s) → IdleIn (run_turns us s) → ⊥) × (steps_of (in_force s) (hand_in s) ≤ steps_among us → IdleIn (run_turns us s))
quiet_here (state p w) f r us h e =
    let q = as_calls us p w h in
    rw (q, as_steps us) (quiet_from p (code_facts p f.0) w f.1 r (calls_of us) (sym (ap number_in q) ∙ e))

waits_here : (s : State) → Fit s → (us : List Turn) (a : Arrival) → List-as-Memᴰ a (hand_in s) → Unchanged us s
    → All (λ b. rank (in_force s) b ≤ rank (in_force s) a) (taken_turns us (replies us s) (number_in s))
    → count_now s ≤ steps_among us → List-as-Memᴰ a (arrivals_committed (moments us (replies us s)))
waits_here (state p w) f us a m h g b =
    rw (as_commits us p w h)
    (waits_from p (code_facts p f.0) w f.1 (calls_of us) a m (rw (as_taken us p w (number w) h) at g) (rw (as_steps us) at b))

preview_here : (s : State) → Fit s → (e i who : ℕ) (us : List Turn) → i < size (in_force s) → may_see (in_force s) who i ≡ true
    → (turn (call (arrive e who)) s).reply ≡ says told_taken_in
    → Unchanged (call (arrive e who) ∷ us) s
    → number_in (run_turns (call (arrive e who) ∷ us) s) ≡ number_in s + 1
    → IdleIn (run_turns (call (arrive e who) ∷ us) s)
    → foreseen (in_force s) (engine_in s) e i who ≡ shows (at (store_in (run_turns (call (arrive e who) ∷ us) s)) i)
unfolding turn
preview_here (state p w) f e i who us b sees t h n g =
    let q = as_calls (call (arrive e who) ∷ us) p w h in
    rw q (preview_from p (code_facts p f.0) w f.1 e i who (calls_of us) b sees (cc t) (sym (ap number_in q) ∙ n) (subst IdleIn q g))

mark_here : (s : State) → Fit s → (b : List ℕ) → (length b ≡ size (in_force s)) × DoneIn (in_force s) b (engine_in s) → (a : Arrival) (m : Bool)
    → (turn (call step) s).reply ≡ says (committed a m) → (a.event < events (in_force s)) × (m ≡ event_over (in_force s) a.event b)
unfolding turn
mark_here (state p w) f b i a m e = step_right p (code_facts p f.0) b i.0 w f.1 i.1 a m (cc e)

-- ---- after a list of turns

module _ (p : Program) (v : Valid p) where
  split_at : (ts us : List Turn) → after p (ts ++ us) ≡ run_turns us (after p ts)
  split_at ts us = runs_append ts us (begun p)

  pub idle_in_count : (ts : List Turn) → All Sound ts → IdleWithin p ts
  idle_in_count ts g = (
    λ us h e b. let q = split_at ts us in rw q (idle_here (after p ts) (fits p v ts g) us h (sym (ap number_in q) ∙ e) b),
    empty_here (after p ts) (fits p v ts g),
  )

  pub quiet_exactly : (ts : List Turn) → All Sound ts → QuietExactly p ts
  quiet_exactly ts g r us h e = let q = split_at ts us in rw q (quiet_here (after p ts) (fits p v ts g) r us h (sym (ap number_in q) ∙ e))

  pub nobody_waits : (ts : List Turn) → All Sound ts → NobodyWaits p ts
  nobody_waits ts g us a m h k b = rw (committed_from_law (after p ts) us) (waits_here (after p ts) (fits p v ts g) us a m h k b)

  pub preview_right : (ts : List Turn) → All Sound ts → PreviewRight p ts
  preview_right ts g e i who us b sees t h n k =
      let q = split_at ts (call (arrive e who) ∷ us) in
      rw q (preview_here (after p ts) (fits p v ts g) e i who us b sees t h (sym (ap number_in q) ∙ n) (subst IdleIn q k))

  pub mark_right : (ts : List Turn) → All Sound ts → MarkRight p ts
  mark_right ts g a m e =
      rw (replayed_is p ts (fresh p))
      (mark_here (after p ts) (fits p v ts g) (store_after p (moments_of p ts)) (stored p v ts g) a m e)
