-- Whether an event runs over, as the evaluator finds it, turn by turn. 02, M-104: "The evaluation of an expression and
-- the handler pass it up".
use Rattle.std.specs.Prelude.{ℕ, Bool, false, ◌||◌, List, [], ◌∷◌}
use Rattle.lib_arith.specs.Functions.{over}
use Rattle.spec_language.specs.Syntax.{Expr, con, name, app1, app2, app3, Program}
use Rattle.spec_language.specs.Dependence.{Response, follows, takes, defers, keeps, size, response}
use Rattle.spec_language.specs.Order.{up_to, phase_one}
use Rattle.spec_semantics.specs.Meaning.{value, at, first_step, first_phase}
use Rattle.spec_semantics.specs.Event.{later_phase, again_step}

-- some application in an expression, each name's value looked up
unfoldable pub over_in : (ℕ → ℕ) → Expr → Bool
over_in look (con w) = false
over_in look (name i) = false
over_in look (app1 f a) = over f (value look a) 0 0 || over_in look a
over_in look (app2 f a b) = over f (value look a) (value look b) 0 || (over_in look a || over_in look b)
over_in look (app3 f a b c) = over f (value look a) (value look b) (value look c) || (over_in look a || (over_in look b || over_in look c))

-- in a behaviour's turn on a store: the first time, as a later handler, the second time
abbrev pub first_over : List ℕ → Response → Bool
first_over s (follows x) = over_in (at s) x
first_over s (takes x) = over_in (at s) x
first_over s (defers x) = false
first_over s keeps = false

abbrev pub later_over : List ℕ → Response → Bool
later_over s (follows x) = false
later_over s (takes x) = false
later_over s (defers x) = over_in (at s) x
later_over s keeps = false

abbrev pub again_over : List ℕ → Response → Bool
again_over s (follows x) = over_in (at s) x
again_over s (takes x) = false
again_over s (defers x) = false
again_over s keeps = false

unfoldable pub any_of : List Bool → Bool
any_of [] = false
any_of (b ∷ bs) = b || any_of bs

module _ (p : Program) (e : ℕ) where
  -- turn after turn, f being what a turn does and g what it finds
  unfoldable pub turns_over : (List ℕ → Response → Bool) → (ℕ → Response → List ℕ → List ℕ) → List ℕ → List ℕ → Bool
  turns_over g f [] s = false
  turns_over g f (i ∷ is) s = g s (response p e i) || turns_over g f is (f i (response p e i) s)

  -- the whole event, on the store s
  unfoldable pub event_over : List ℕ → Bool
  event_over s =
      turns_over first_over first_step (phase_one p e) s
      || (any_of (up_to (size p) (λ i. later_over (first_phase p e s) (response p e i)))
      || turns_over again_over again_step (phase_one p e) (later_phase p e (first_phase p e s)))
