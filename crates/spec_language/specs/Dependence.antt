-- What a behaviour does on an event, dependence and cycles (01: circles), what an event reads and writes, independence.
-- 01 "The meaning of one event". An event is its number. A number that is not declared has no handler: so it is the
-- case of no event.
use Rattle.std.specs.Prelude.{ℕ, ◌≤◌, Bool, true, false, not, ◌&&◌, ◌||◌, ◌≡◌, List, [], ◌∷◌, length, get_or, eqb}
use Rattle.spec_language.specs.Syntax.{Expr, con, name, app1, app2, app3, Phase, immediate, later, Handler, handler, Behaviour, passive, active, Program}

-- how many behaviours and events
abbrev pub size : Program → ℕ
size p = length p.behaviours

abbrev pub events : Program → ℕ
events p = length p.priorities

-- the case of no event
abbrev pub no_event : Program → ℕ
no_event p = events p

-- what a behaviour does on an event: a passive follows its expression; an active takes the value of an immediate
-- handler's expression, defers to the second phase that of a later handler's, or keeps its value
pub data Response : Type 0 where
  follows takes defers : Expr → Response
  keeps : Response

abbrev pub in_phase : Phase → Expr → Response
in_phase immediate x = takes x
in_phase later x = defers x

unfoldable pub handled : ℕ → List Handler → Response
handled e [] = keeps
handled e (handler f φ x ∷ hs) = elim (eqb e f) [ true ↦ in_phase φ x | false ↦ handled e hs ]

abbrev pub respond : ℕ → Behaviour → Response
respond e (passive x) = follows x
respond e (active s hs) = handled e hs

-- behaviour i of a program; past its end, an active with no handler
abbrev pub behaviour_at : Program → ℕ → Behaviour
behaviour_at p i = get_or p.behaviours i (active 0 [])

abbrev pub response : Program → ℕ → ℕ → Response
response p e i = respond e (behaviour_at p i)

-- name j stands in an expression
unfoldable pub mentions : ℕ → Expr → Bool
mentions j (con w) = false
mentions j (name i) = eqb i j
mentions j (app1 f a) = mentions j a
mentions j (app2 f a b) = mentions j a || mentions j b
mentions j (app3 f a b c) = mentions j a || (mentions j b || mentions j c)

-- "for an event, a passive depends on every name in it, an active with an immediate handler on every name but its own,
-- other actives on nothing"
abbrev pub needs : ℕ → ℕ → Response → Bool
needs i j (follows x) = mentions j x
needs i j (takes x) = mentions j x && not (eqb i j)
needs i j (defers x) = false
needs i j keeps = false

abbrev pub depends_on : Program → ℕ → ℕ → ℕ → Bool
depends_on p e i j = needs i j (response p e i)

-- reached by a chain of dependence
pub data Reach (dep : ℕ → ℕ → Bool) (a : ℕ) : ℕ → Type 0 where
  one : {b : ℕ} → dep a b ≡ true → Reach dep a b
  more : {b c : ℕ} → Reach dep a b → dep b c ≡ true → Reach dep a c

-- "A behaviour reached from itself is a circle. The case of no event counts too."
abbrev pub Acyclic : Program → ℕ → Type 0
Acyclic p e = (i : ℕ) → Reach (depends_on p e) i i → ⊥

abbrev pub NoCycle : Program → Type 0
NoCycle p = (e : ℕ) → e ≤ no_event p → Acyclic p e

-- ---- what an event writes and reads

-- an active
abbrev pub is_active : Behaviour → Bool
is_active (passive x) = false
is_active (active s hs) = true

-- "An event writes the actives with a handler for it."
abbrev pub written : Response → Bool
written (follows x) = false
written (takes x) = true
written (defers x) = true
written keeps = false

abbrev pub writes : Program → ℕ → ℕ → Bool
writes p e i = written (response p e i)

-- "It reads the actives named in those handlers, directly or through passives."
pub data Named (p : Program) (e : ℕ) : ℕ → Type 0 where
  in_immediate : (i : ℕ) {j : ℕ} {x : Expr} → response p e i ≡ takes x → mentions j x ≡ true → Named p e j
  in_later : (i : ℕ) {j : ℕ} {x : Expr} → response p e i ≡ defers x → mentions j x ≡ true → Named p e j
  through : {i j : ℕ} {x : Expr} → Named p e i → behaviour_at p i ≡ passive x → mentions j x ≡ true → Named p e j

abbrev pub Reads : Program → ℕ → ℕ → Type 0
Reads p e j = Named p e j × (is_active (behaviour_at p j) ≡ true)

-- "Two events are independent if neither writes what the other reads or writes."
abbrev pub Apart : Program → ℕ → ℕ → Type 0
Apart p e f = (i : ℕ) → writes p e i ≡ true → (Reads p f i → ⊥) × (writes p f i ≡ false)

abbrev pub Independent : Program → ℕ → ℕ → Type 0
Independent p e f = Apart p e f × Apart p f e
