-- The meaning of one event as an evaluator, by which the rules are shown to be met. 01 "The meaning of one event".
use Rattle.std.specs.Prelude.{ℕ, ◌<◌, ◌≡◌, List, [], ◌∷◌, length, set}
use Rattle.spec_language.specs.Syntax.{Expr, passive, Program}
use Rattle.spec_language.specs.Dependence.{Response, follows, takes, defers, keeps, size, response, behaviour_at}
use Rattle.spec_language.specs.Order.{up_to, phase_one}
use Rattle.spec_semantics.specs.Meaning.{value, at, in_turn, first_phase}

-- ---- phase two. "Later handlers are then all evaluated over first-phase values, and take effect together. Passives
-- follow their expression in each phase."

abbrev pub later_value : List ℕ → ℕ → Response → ℕ
later_value s i (follows x) = at s i
later_value s i (takes x) = at s i
later_value s i (defers x) = value (at s) x
later_value s i keeps = at s i

abbrev pub again_step : ℕ → Response → List ℕ → List ℕ
again_step i (follows x) s = set s i (value (at s) x)
again_step i (takes x) s = s
again_step i (defers x) s = s
again_step i keeps s = s

module _ (p : Program) (e : ℕ) where
  -- later handlers take effect together
  unfoldable pub later_phase : List ℕ → List ℕ
  later_phase s = up_to (size p) (λ i. later_value s i (response p e i))

  -- the store after the event: second-phase values
  unfoldable pub event : List ℕ → List ℕ
  event s = in_turn p e again_step (phase_one p e) (later_phase (first_phase p e s))

-- events, one by one, undivided
unfoldable pub play : Program → List ℕ → List ℕ → List ℕ
play p [] s = s
play p (e ∷ es) s = play p es (event p e s)

-- a store in which every passive has its expression's value
abbrev pub Consistent : Program → List ℕ → Type 0
Consistent p s = (length s ≡ size p) × ((i : ℕ) (x : Expr) → i < size p → behaviour_at p i ≡ passive x → at s i ≡ value (at s) x)
