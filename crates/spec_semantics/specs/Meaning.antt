-- A fresh board, the first phase, which works its passives out, and a program that carries a board. 01 "The meaning of
-- one event", "Handlers and steps": "A fresh round has start values, passives worked out from them".
use Rattle.std.specs.Prelude.{ℕ, List, [], ◌∷◌, get_or, set}
use Rattle.lib_arith.specs.Functions.{result_of}
use Rattle.spec_language.specs.Syntax.{Expr, con, name, app1, app2, app3, Behaviour, passive, active, Program}
use Rattle.spec_language.specs.Dependence.{Response, follows, takes, defers, keeps, size, no_event, response, behaviour_at}
use Rattle.spec_language.specs.Order.{up_to, phase_one}

-- the value of an expression, each name's value looked up
unfoldable pub value : (ℕ → ℕ) → Expr → ℕ
value look (con w) = w
value look (name i) = look i
value look (app1 f a) = result_of f (value look a) 0 0
value look (app2 f a b) = result_of f (value look a) (value look b) 0
value look (app3 f a b c) = result_of f (value look a) (value look b) (value look c)

-- the value of behaviour i on a store (01: board)
abbrev pub at : List ℕ → ℕ → ℕ
at s i = get_or s i 0

-- ---- phase one, in its order. "Its own name there means its old value; another name means that behaviour's
-- first-phase value."

abbrev pub first_step : ℕ → Response → List ℕ → List ℕ
first_step i (follows x) s = set s i (value (at s) x)
first_step i (takes x) s = set s i (value (at s) x)
first_step i (defers x) s = s
first_step i keeps s = s

module _ (p : Program) (e : ℕ) where
  unfoldable pub in_turn : (ℕ → Response → List ℕ → List ℕ) → List ℕ → List ℕ → List ℕ
  in_turn f [] s = s
  in_turn f (i ∷ is) s = in_turn f is (f i (response p e i) s)

  -- first-phase values
  unfoldable pub first_phase : List ℕ → List ℕ
  first_phase s = in_turn first_step (phase_one p e) s

-- the start values, the passives' places 0
abbrev pub start_of : Behaviour → ℕ
start_of (passive x) = 0
start_of (active s hs) = s

unfoldable pub starts : Program → List ℕ
starts p = up_to (size p) (λ i. start_of (behaviour_at p i))

-- "A fresh round has start values, passives worked out from them"
unfoldable pub fresh : Program → List ℕ
fresh p = first_phase p (no_event p) (starts p)

-- the program whose actives have the values of a store: 003's state
abbrev pub carry : ℕ → Behaviour → Behaviour
carry v (passive x) = passive x
carry v (active s hs) = active v hs

unfoldable pub with_store : Program → List ℕ → Program
with_store p s = record {
  priorities = p.priorities;
  senders = p.senders;
  behaviours = up_to (size p) (λ i. carry (at s i) (behaviour_at p i));
  viewers = p.viewers;
}
