-- Two states of programs alike, with the same control and with stores that agree on what the player sees, stay so at
-- the same call, and answer the player alike. The stores meant are those that the running event began from: what it has
-- done so far follows from them.
use Rattle.lib_base.proofs.Prelude.{ℕ, ◌≤◌, ◌<◌, ◌≡◌, refl, ◌∙◌, sym, ap, subst, true, false, Option, some, List, []}
use Rattle.lib_base.proofs.Prelude.{◌∷◌, length, get_or, replicate, eqb, leb, eqb-true, leb-false, arith}
use Rattle.lib_base.specs.Basics.{pick}
use Rattle.lib_base.proofs.Tools.{by_two}
use Rattle.spec_language.specs.Syntax.{Program}
use Rattle.spec_language.specs.Rights.{may, may_see}
use Rattle.spec_language.specs.Dependence.{size, events, no_event}
use Rattle.spec_language.specs.Refusals as refusals
use Rattle.spec_semantics.specs.Meaning.{at}
use Rattle.spec_semantics.specs.Event.{event}
use Rattle.spec_execution.proofs.CodeRight.{code_facts}
use Rattle.spec_model.specs.Model.{Engine, engine, Call, arrive, step, board, Answer, refused, told_taken_in, shows, idle, ran, started, preempted, committed, act, run, State, state}
use Rattle.spec_model.specs.Claims.{number, store_of, copy_back_in, forecast, count_in, shown_after}
use Rattle.spec_model.specs.Told.{unmarked, unless_refused, previewed}
use Rattle.spec_model.proofs.Moves.{Effect, nothing, took, commit, effect, Cases, act_by}
use Rattle.spec_model.proofs.Reached.{Reached, DoneIn, onto, still, Computes, computes, act_keeps}
use Rattle.spec_model.proofs.Previews.{idle_within}
use Rattle.spec_model.proofs.History.{Fit}
use Rattle.secrecy_model.specs.Sight.{Sealed}
use Rattle.secrecy_model.specs.ModelRule.{hears}
use Rattle.secrecy_model.proofs.Programs.{Alike}
use Rattle.secrecy_model.proofs.Stores.{sealed_direct, event_agree}
use Rattle.secrecy_model.proofs.Control.{control, blank, hushed, act_control, act_hushed, forecast_same, count_same, copy_back_both}
use Rattle.secrecy_model.proofs.Answered.{read_agree, idle_no_copy_back}

-- ---- what a call adds to the history is said by its answer without its values

effect_unmarked : (a : Answer) (n : ℕ) → effect step a n ≡ effect step (unmarked a) n
effect_unmarked (refused k) n = refl
effect_unmarked told_taken_in n = refl
effect_unmarked (shows v) n = refl
effect_unmarked idle n = refl
effect_unmarked ran n = refl
effect_unmarked (started a) n = refl
effect_unmarked (preempted a) n = refl
effect_unmarked (committed a m) n = refl

effect_blank : (i who : ℕ) (a : Answer) (n : ℕ) → effect (board i who) a n ≡ effect (board i who) (blank a) n
effect_blank i who (refused k) n = refl
effect_blank i who told_taken_in n = refl
effect_blank i who (shows v) n = refl
effect_blank i who idle n = refl
effect_blank i who ran n = refl
effect_blank i who (started a) n = refl
effect_blank i who (preempted a) n = refl
effect_blank i who (committed a m) n = refl

effect_hushed : (c : Call) (a : Answer) (n : ℕ) → effect c a n ≡ effect c (hushed c a) n
effect_hushed (arrive e who) a n = refl
effect_hushed step a n = effect_unmarked a n
effect_hushed (board i who) a n = effect_blank i who a n

number_control : (w : Engine) → number w ≡ number (control w)
number_control (engine t waiting r d) = refl

-- ---- a commit is of a declared event

abbrev Known : Program → Effect → Type 0
Known p nothing = Unit {0}
Known p (took a) = Unit {0}
Known p (commit a) = a.event < events p

abbrev Tells : Program → Call → Engine → Effect → Engine → Type 0
Tells p c w x v = Reached p w → Known p x

tells : (p : Program) → Cases p (Tells p)
tells p = record {
  refuses = λ e who w r. tt;
  takes = λ e who t waiting q d k eight m n r. tt;
  reads = λ i who w r. tt;
  idles = λ t d r. tt;
  starts = λ t b l d r. tt;
  preempts = λ t b l a n d u o r. tt;
  runs = λ t waiting a n d k u r. tt;
  commits = λ t waiting a n d k u r. r.fine.0.1;
}

-- ---- two states

module _ (player : ℕ) where
  -- the same values of what the player sees in p
  abbrev pub Agree : Program → List ℕ → List ℕ → Type 0
  Agree p s t = (i : ℕ) → i < size p → may_see p player i ≡ true → at s i ≡ at t i

  pub record Twin (p : Program) (w : Engine) (q : Program) (x : Engine) : Type 0 where
    pub alike : Alike player p q
    pub sealed : Sealed p player
    pub one : Fit (state p w)
    pub other : Fit (state q x)
    pub together : control w ≡ control x
    pub here : List ℕ
    pub there : List ℕ
    pub sized : length here ≡ size p
    pub sized_other : length there ≡ size q
    pub done : DoneIn p here w
    pub done_other : DoneIn q there x
    pub agree : Agree p here there

  abbrev pub TwinStates : State → State → Type 0
  TwinStates (state p w) (state q x) = Twin p w q x

  module _ (p : Program) (w : Engine) (q : Program) (x : Engine) (twin : Twin p w q x) where
    copy_back_too : copy_back_in p w ≡ copy_back_in q x
    copy_back_too = copy_back_both player p q twin.alike w x twin.together

    -- unless a copy-back is under way, both stores are those
    pub store_here : copy_back_in p w ≡ false → store_of w ≡ twin.here
    store_here h = still p (code_facts p twin.one.0) twin.here w twin.sized twin.one.1.fine h twin.done

    pub store_there : copy_back_in p w ≡ false → store_of x ≡ twin.there
    store_there h = still q (code_facts q twin.other.0) twin.there x twin.sized_other twin.other.1.fine (sym copy_back_too ∙ h) twin.done_other

    pub stores_agree : copy_back_in p w ≡ false → (i : ℕ) → i < size p → may_see p player i ≡ true → at (store_of w) i ≡ at (store_of x) i
    stores_agree h i b m = ap (λ (s : List ℕ). at s i) (store_here h) ∙ twin.agree i b m ∙ sym (ap (λ (s : List ℕ). at s i) (store_there h))

    -- ---- a call

    onto_agree : (y : Effect) → Known p y → Agree p (onto p y twin.here) (onto q y twin.there)
    onto_agree nothing k = twin.agree
    onto_agree (took a) k = twin.agree
    onto_agree (commit a) k =
        let e : a.event ≤ no_event p = omega (arith, k) in
        event_agree player p q twin.alike (sealed_direct p player twin.sealed) twin.one.0 twin.other.0 a.event e twin.here twin.there
        twin.sized twin.sized_other twin.agree

    pub twin_call : (c : Call) → Twin p (act p c w).after q (act q c x).after
    twin_call c =
        let y : Effect = effect c (act p c w).answer (number w) in
        let z : Effect = effect c (act q c x).answer (number x) in
        let n : number w ≡ number x = number_control w ∙ ap number twin.together ∙ sym (number_control x) in
        let a : hushed c (act p c w).answer ≡ hushed c (act q c x).answer = act_hushed player p q twin.alike c w x twin.together in
        let e : y ≡ z =
        effect_hushed c (act p c w).answer (number w) ∙ (λ i. effect c (a i) (n i)) ∙ sym (effect_hushed c (act q c x).answer (number x)) in
        let vp = code_facts p twin.one.0 in
        let vq = code_facts q twin.other.0 in
        let l = act_by p (Computes p vp) (computes p vp) c w twin.one.1.fine twin.here twin.sized twin.done in
        let r = act_by q (Computes q vq) (computes q vq) c x twin.other.1.fine twin.there twin.sized_other twin.done_other in
        record {
          alike = twin.alike;
          sealed = twin.sealed;
          one = (twin.one.0, act_keeps p vp c w twin.one.1);
          other = (twin.other.0, act_keeps q vq c x twin.other.1);
          together = act_control player p q twin.alike c w x twin.together;
          here = onto p y twin.here;
          there = onto q z twin.there;
          sized = l.0;
          sized_other = r.0;
          done = l.1;
          done_other = r.1;
          agree = subst (λ (k : Effect). Agree p (onto p y twin.here) (onto q k twin.there)) e (onto_agree y (act_by p (Tells p) (tells p) c w twin.one.1));
        }

  pub twin_calls : (cs : List Call) (p : Program) (w : Engine) (q : Program) (x : Engine) → Twin p w q x → Twin p (run p cs w) q (run q cs x)
  unfolding run
  twin_calls [] p w q x h = h
  twin_calls (c ∷ cs) p w q x h = twin_calls cs p (act p c w).after q (act q c x).after (twin_call p w q x h c)

  -- ---- what the player is told

  module _ (p : Program) (w : Engine) (q : Program) (x : Engine) (twin : Twin p w q x) where
    board_same : (i : ℕ) → (act p (board i player) w).answer ≡ (act q (board i player) x).answer
    board_same i =
        read_agree player p q twin.alike i w x twin.together (λ h b m. stores_agree p w q x twin h i b m)

    pub call_heard : eqb player 0 ≡ false → (c : Call) → hears player c (act p c w).answer ≡ hears player c (act q c x).answer
    call_heard guest (arrive e who) = ap (hears player (arrive e who)) (act_hushed player p q twin.alike (arrive e who) w x twin.together)
    call_heard guest step =
        let h : unmarked (act p step w).answer ≡ unmarked (act q step x).answer = act_hushed player p q twin.alike step w x twin.together in
        ap (λ (a : Answer). some a) (rw guest h)
    call_heard guest (board i who) =
        by_two (λ (a b : Option Answer). a ≡ b) (eqb who player)
        (λ z. ap (λ (a : Answer). some a) (subst (λ (k : ℕ). (act p (board i k) w).answer ≡ (act q (board i k) x).answer) (sym (eqb-true who player z)) (board_same i)))
        (λ z. refl)

    pub forecast_heard : forecast p w ≡ forecast q x
    forecast_heard = forecast_same player p q twin.alike w x twin.together

    -- run to idle no copy-back is under way
    shown_same : (i : ℕ) → i < size p → may_see p player i ≡ true → shown_after p w i ≡ shown_after q x i
    shown_same i b m =
        let n : ℕ = count_in p w in
        let late : Twin p (run p (replicate n step) w) q (run q (replicate n step) x) = twin_calls (replicate n step) p w q x twin in
        let quiet : copy_back_in p (run p (replicate n step) w) ≡ false =
        idle_no_copy_back p (run p (replicate n step) w) (idle_within p (code_facts p twin.one.0) w twin.one.1) in
        ap shows (stores_agree p (run p (replicate n step) w) q (run q (replicate n step) x) late quiet i b m)
        ∙ ap (λ (k : ℕ). shows (at (store_of (run q (replicate k step) x)) i)) (count_same player p q twin.alike w x twin.together)

  pub preview_heard : (p : Program) (w : Engine) (q : Program) (x : Engine) → Twin p w q x → (e i : ℕ) → previewed p w e i player ≡ previewed q x e i player
  preview_heard p w q x twin e i =
      let y : Answer = shown_after q (act q (arrive e player) x).after i in
      let told : (act p (arrive e player) w).answer ≡ (act q (arrive e player) x).answer = act_hushed player p q twin.alike (arrive e player) w x twin.together in
      let taken = twin_call p w q x twin (arrive e player) in
      ap (unless_refused (act p (arrive e player) w).answer)
      (by_two (λ (a b : Answer). a ≡ b) (leb (size p) i) (λ c. refl)
      (λ c. by_two (λ (a b : Answer). a ≡ b) (may_see p player i)
      (λ m. shown_same p (act p (arrive e player) w).after q (act q (arrive e player) x).after taken i (leb-false (size p) i c) m) (λ m. refl)))
      ∙ (λ z.
      unless_refused (told z)
      (pick (leb (twin.alike.sizes z) i) (refused refusals.no_behaviour)
      (pick (may (get_or (twin.alike.viewers z) i 0) player) y (refused refusals.no_right))))
