-- Stores that agree on what a player sees agree on it after an event, from fresh on: what is seen hangs on what is
-- seen. Along the needs of each phase, both stores solving the same equations.
use Rattle.lib_base.proofs.Prelude.{ℕ, ◌≤◌, ◌<◌, ◌≡◌, refl, ◌∙◌, sym, ap, subst, true, false, Bool, false≢true, not}
use Rattle.lib_base.proofs.Prelude.{and-eq-true_iff, List, [], ◌∷◌, length, eqb, arith}
use Rattle.lib_base.proofs.Tools.{by_elim}
use Rattle.spec_language.specs.Syntax.{Expr, Phase, immediate, later, Handler, handler, Behaviour, passive, active, Program}
use Rattle.spec_language.specs.Rights.{may_see}
use Rattle.spec_language.specs.Dependence.{Response, follows, takes, defers, keeps, in_phase, handled, respond, size, no_event, behaviour_at, response, mentions, needs, one, more}
use Rattle.spec_language.specs.Valid.{Valid}
use Rattle.spec_language.proofs.Laws.{get_d_up_to, named_in, ResponseNamesIn, response_names}
use Rattle.spec_semantics.specs.Meaning.{at, first_phase, start_of, starts, fresh}
use Rattle.spec_semantics.specs.Event.{event}
use Rattle.spec_semantics.proofs.OrderLaws.{by_needs}
use Rattle.spec_semantics.proofs.Solution.{first_of, second_of, value_same, first_local, first_solves, event_solves, or_first, or_second}
use Rattle.spec_semantics.proofs.Lengths.{length_starts}
use Rattle.secrecy_model.specs.Sight.{in_handlers, in_behaviour, names, Sealed}
use Rattle.secrecy_model.proofs.Programs.{BehaviourAlike, Alike, events_same, response_same}

-- ---- the direct form is enough

abbrev pub Direct : Program → ℕ → Type 0
Direct p player = (i j : ℕ) → may_see p player i ≡ true → names p i j ≡ true → may_see p player j ≡ true

pub sealed_direct : (p : Program) (player : ℕ) → Sealed p player → Direct p player
sealed_direct p player h i j s n = h i j s (one n)

pub direct_sealed : (p : Program) (player : ℕ) → Direct p player → Sealed p player
direct_sealed p player h i j s (one n) = h i j s n
direct_sealed p player h i j s (more {b = b} r n) = h b j (direct_sealed p player h i b s r) n

-- ---- what an event looks at is named

-- name j stands in what a behaviour does on an event
abbrev in_response : ℕ → Response → Bool
in_response j (follows x) = mentions j x
in_response j (takes x) = mentions j x
in_response j (defers x) = mentions j x
in_response j keeps = false

phase_names : (j : ℕ) (φ : Phase) (x : Expr) → in_response j (in_phase φ x) ≡ true → mentions j x ≡ true
phase_names j immediate x h = h
phase_names j later x h = h

handled_names : (e j : ℕ) (hs : List Handler) → in_response j (handled e hs) ≡ true → in_handlers j hs ≡ true
unfolding handled in_handlers
handled_names e j [] = λ h. absurd (false≢true h)
handled_names e j (handler f φ x ∷ hs) =
    by_elim (λ (r : Response). in_response j r ≡ true → in_handlers j (handler f φ x ∷ hs) ≡ true) (eqb e f)
    (λ t h. or_first (mentions j x) (in_handlers j hs) (phase_names j φ x h))
    (λ t h. or_second (mentions j x) (in_handlers j hs) (handled_names e j hs h))

respond_names : (e j : ℕ) (b : Behaviour) → in_response j (respond e b) ≡ true → in_behaviour j b ≡ true
respond_names e j (passive x) h = h
respond_names e j (active s hs) h = handled_names e j hs h

needs_names : (i j : ℕ) (r : Response) → needs i j r ≡ true → in_response j r ≡ true
needs_names i j (follows x) h = h
needs_names i j (takes x) h = ((and-eq-true_iff (mentions j x) (not (eqb i j))).0 h).0
needs_names i j (defers x) h = absurd (false≢true h)
needs_names i j keeps h = absurd (false≢true h)

response_in : (n j : ℕ) (r : Response) → ResponseNamesIn n r → in_response j r ≡ true → j < n
response_in n j (follows x) h e = named_in n j x h e
response_in n j (takes x) h e = named_in n j x h e
response_in n j (defers x) h e = named_in n j x h e
response_in n j keeps h e = absurd (false≢true e)

-- the second-phase value of i hangs on the old value and the first-phase value of i, and on the values in both phases
-- of the names in its expression
second_local : (s t : List ℕ) (i : ℕ) (r : Response) (f g look see : ℕ → ℕ) → at s i ≡ at t i → f i ≡ g i → ((j : ℕ) → in_response j r ≡ true → f j ≡ g j)
    → ((j : ℕ) → needs i j r ≡ true → look j ≡ see j) → second_of s f look i r ≡ second_of t g see i r
second_local s t i (follows x) f g look see o k h n = value_same look see x n
second_local s t i (takes x) f g look see o k h n = k
second_local s t i (defers x) f g look see o k h n = value_same f g x h
second_local s t i keeps f g look see o k h n = o

start_same : (b c : Behaviour) → BehaviourAlike true b c → start_of b ≡ start_of c
start_same (passive x) (passive y) h = refl
start_same (passive x) (active t hs) h = absurd h
start_same (active s hs) (passive y) h = absurd h
start_same (active s hs) (active t gs) h = h.0 refl

-- ---- two programs

module _ (player : ℕ) (p q : Program) (alike : Alike player p q) (direct : Direct p player) (v : Valid p) (u : Valid q) where
  -- the same values of what the player sees
  abbrev pub Agree : List ℕ → List ℕ → Type 0
  Agree s t = (i : ℕ) → i < size p → may_see p player i ≡ true → at s i ≡ at t i

  seen_names : (e i j : ℕ) → may_see p player i ≡ true → in_response j (response p e i) ≡ true → may_see p player j ≡ true
  seen_names e i j s h = direct i j s (respond_names e j (behaviour_at p i) h)

  module _ (e : ℕ) (declared : e ≤ no_event p) (s t : List ℕ) (ls : length s ≡ size p) (lt : length t ≡ size q) (agree : Agree s t) where
    also : e ≤ no_event q
    also = omega (arith, events_same player p q alike)

    -- first-phase values
    pub first_agree : Agree (first_phase p e s) (first_phase q e t)
    first_agree =
        by_needs p v e declared (λ i. may_see p player i ≡ true → at (first_phase p e s) i ≡ at (first_phase q e t) i) (λ i b h m.
        first_solves p v e declared s ls i b
        ∙ first_local s t i (response p e i) (at (first_phase p e s)) (at (first_phase q e t)) (agree i b m)
        (λ j d. h j d (seen_names e i j m (needs_names i j (response p e i) d)))
        ∙ ap (first_of t (at (first_phase q e t)) i) (response_same player p q alike e i)
        ∙ sym (first_solves q u e also t lt i (omega (arith, alike.sizes))))

    first_named : (i j : ℕ) → may_see p player i ≡ true → in_response j (response p e i) ≡ true → at (first_phase p e s) j ≡ at (first_phase q e t) j
    first_named i j m h =
        first_agree j (response_in (size p) j (response p e i) (response_names p v.known e i) h) (seen_names e i j m h)

    -- second-phase values
    pub event_agree : Agree (event p e s) (event q e t)
    event_agree =
        by_needs p v e declared (λ i. may_see p player i ≡ true → at (event p e s) i ≡ at (event q e t) i) (λ i b h m.
        event_solves p v e declared s ls i b
        ∙ second_local s t i (response p e i) (at (first_phase p e s)) (at (first_phase q e t)) (at (event p e s)) (at (event q e t)) (agree i b m)
        (first_agree i b m) (λ j d. first_named i j m d)
        (λ j d. h j d (seen_names e i j m (needs_names i j (response p e i) d)))
        ∙ ap (second_of t (at (first_phase q e t)) (at (event q e t)) i) (response_same player p q alike e i)
        ∙ sym (event_solves q u e also t lt i (omega (arith, alike.sizes))))

  starts_agree : Agree (starts p) (starts q)
  unfolding starts
  starts_agree i b m =
      get_d_up_to (size p) _ i 0 b
      ∙ start_same (behaviour_at p i) (behaviour_at q i) (subst (λ (k : Bool). BehaviourAlike k (behaviour_at p i) (behaviour_at q i)) m (alike.each i))
      ∙ sym (get_d_up_to (size q) _ i 0 (omega (arith, alike.sizes)))

  -- a fresh store
  pub fresh_agree : Agree (fresh p) (fresh q)
  unfolding fresh
  fresh_agree =
      subst (λ (n : ℕ). Agree (first_phase p (no_event p) (starts p)) (first_phase q n (starts q))) (events_same player p q alike)
      (first_agree (no_event p) (omega arith) (starts p) (starts q) (length_starts p) (length_starts q) starts_agree)
