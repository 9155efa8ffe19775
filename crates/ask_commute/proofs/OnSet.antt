-- A set of behaviours that depends on nothing outside it goes its own way: stores that agree on it agree on it after an
-- event. By induction over the needs of each phase, both stores solving the same equations.
use Rattle.lib_base.proofs.Prelude.{ℕ, ◌≤◌, ◌<◌, ◌≡◌, refl, ◌∙◌, sym, true, false≢true, not, and-eq-true_iff, List}
use Rattle.lib_base.proofs.Prelude.{length, eqb, arith}
use Rattle.spec_language.specs.Syntax.{Behaviour, passive, active, Program}
use Rattle.spec_language.specs.Dependence.{Response, follows, takes, defers, keeps, handled, respond, size, no_event, behaviour_at, response, mentions, needs, depends_on, is_active}
use Rattle.spec_language.specs.Valid.{Valid}
use Rattle.spec_language.proofs.Laws.{named_in, ResponseNamesIn, response_names}
use Rattle.spec_semantics.specs.Meaning.{at, first_phase}
use Rattle.spec_semantics.specs.Event.{event}
use Rattle.spec_semantics.proofs.OrderLaws.{by_needs}
use Rattle.spec_semantics.proofs.Solution.{first_of, second_of, Follows, value_same, first_local, first_solves, event_solves}
use Rattle.check_reads.specs.InResponse.{in_response}

-- ---- what is needed is named, and what is named exists

pub needs_named : (i j : ℕ) (r : Response) → needs i j r ≡ true → in_response j r ≡ true
needs_named i j (follows x) h = h
needs_named i j (takes x) h = ((and-eq-true_iff (mentions j x) (not (eqb i j))).0 h).0
needs_named i j (defers x) h = absurd (false≢true h)
needs_named i j keeps h = absurd (false≢true h)

pub in_range : (n j : ℕ) (r : Response) → ResponseNamesIn n r → in_response j r ≡ true → j < n
in_range n j (follows x) h m = named_in n j x h m
in_range n j (takes x) h m = named_in n j x h m
in_range n j (defers x) h m = named_in n j x h m
in_range n j keeps h m = absurd (false≢true m)

pub named_below : (p : Program) → Valid p → (e i j : ℕ) → in_response j (response p e i) ≡ true → j < size p
named_below p v e i j m = in_range (size p) j (response p e i) (response_names p v.known e i) m

-- ---- first-phase values, on what has its first-phase needs within it

module _ (p : Program) (v : Valid p) (e : ℕ) (declared : e ≤ no_event p) (s t : List ℕ) (ls : length s ≡ size p) (lt : length t ≡ size p)
    (S : ℕ → Type 0) (closed : (i j : ℕ) → S i → depends_on p e i j ≡ true → S j)
    (same : (i : ℕ) → i < size p → S i → is_active (behaviour_at p i) ≡ true → at s i ≡ at t i) where
  first_step : (f g : ℕ → ℕ) (i : ℕ) (b : Behaviour) → (is_active b ≡ true → at s i ≡ at t i) → ((j : ℕ) → needs i j (respond e b) ≡ true → f j ≡ g j)
      → first_of s f i (respond e b) ≡ first_of t g i (respond e b)
  first_step f g i (passive x) o h = value_same f g x h
  first_step f g i (active c hs) o h = first_local s t i (handled e hs) f g (o refl) h

  pub first_on : (i : ℕ) → i < size p → S i → at (first_phase p e s) i ≡ at (first_phase p e t) i
  first_on =
      by_needs p v e declared (λ i. S i → at (first_phase p e s) i ≡ at (first_phase p e t) i) (λ i b h m.
      first_solves p v e declared s ls i b
      ∙ first_step (at (first_phase p e s)) (at (first_phase p e t)) i (behaviour_at p i) (same i b m) (λ j d. h j d (closed i j m d))
      ∙ sym (first_solves p v e declared t lt i b))

-- ---- a set that depends on nothing outside it

module _ (p : Program) (D : ℕ → Type 0) where
  abbrev pub Closed : Type 0
  Closed = (e i j : ℕ) → D i → in_response j (response p e i) ≡ true → D j

  -- the same values there
  abbrev pub Agree : List ℕ → List ℕ → Type 0
  Agree s t = (i : ℕ) → i < size p → D i → at s i ≡ at t i

module _ (p : Program) (v : Valid p) (D : ℕ → Type 0) where
  second_local : (s t : List ℕ) (i : ℕ) (r : Response) (f g look see : ℕ → ℕ) → at s i ≡ at t i → f i ≡ g i → ((j : ℕ) → in_response j r ≡ true → f j ≡ g j)
      → ((j : ℕ) → needs i j r ≡ true → look j ≡ see j) → second_of s f look i r ≡ second_of t g see i r
  second_local s t i (follows x) f g look see o k h n = value_same look see x n
  second_local s t i (takes x) f g look see o k h n = k
  second_local s t i (defers x) f g look see o k h n = value_same f g x h
  second_local s t i keeps f g look see o k h n = o

  module _ (closed : Closed p D) where
    pub needed_in_law : (e i j : ℕ) → D i → depends_on p e i j ≡ true → D j
    needed_in_law e i j m d = closed e i j m (needs_named i j (response p e i) d)

    pub event_on : (e : ℕ) → e ≤ no_event p → (s t : List ℕ) → length s ≡ size p → length t ≡ size p → Agree p D s t → Agree p D (event p e s) (event p e t)
    event_on e declared s t ls lt agree =
        let first : Agree p D (first_phase p e s) (first_phase p e t) =
        first_on p v e declared s t ls lt D (needed_in_law e) (λ i b m a. agree i b m) in
        by_needs p v e declared (λ i. D i → at (event p e s) i ≡ at (event p e t) i) (λ i b h m.
        event_solves p v e declared s ls i b
        ∙ second_local s t i (response p e i) (at (first_phase p e s)) (at (first_phase p e t)) (at (event p e s)) (at (event p e t)) (agree i b m) (first i b m)
        (λ j d. first j (named_below p v e i j d) (closed e i j m d)) (λ j d. h j d (needed_in_law e i j m d))
        ∙ sym (event_solves p v e declared t lt i b))

    -- given the actives of D, no other values of its passives follow their expressions
    passive_on_law : (f g : ℕ → ℕ) → Follows p f → Follows p g → (i : ℕ) → i < size p → (b : Behaviour) → behaviour_at p i ≡ b → (is_active b ≡ true → f i ≡ g i)
        → ((j : ℕ) → needs i j (respond (no_event p) b) ≡ true → f j ≡ g j) → f i ≡ g i
    passive_on_law f g hf hg i h (passive x) t o k = hf i x h t ∙ value_same f g x k ∙ sym (hg i x h t)
    passive_on_law f g hf hg i h (active c hs) t o k = o refl

    pub passives_on : (f g : ℕ → ℕ) → Follows p f → Follows p g → ((i : ℕ) → i < size p → D i → is_active (behaviour_at p i) ≡ true → f i ≡ g i)
        → (i : ℕ) → i < size p → D i → f i ≡ g i
    passives_on f g hf hg same =
        by_needs p v (no_event p) (omega arith) (λ i. D i → f i ≡ g i) (λ i b h m.
        passive_on_law f g hf hg i b (behaviour_at p i) refl (same i b m) (λ j d. h j d (needed_in_law (no_event p) i j m d)))
