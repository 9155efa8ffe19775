-- Instructions, and the list of them for each event. 01 "Handlers and steps", after 003 Figure 3.
use Rattle.std.specs.Prelude.{ℕ, ◌+◌, ◌*◌, Bool, true, false}
use mathlib.Core.List.{List, [], ◌∷◌, ◌++◌, flatten, flat_map, sum}
use Rattle.lib_base.specs.Basics.{pick}
use Rattle.spec_language.specs.Syntax.{Expr, con, name, app1, app2, app3, Program}
use Rattle.spec_language.specs.Dependence.{Response, follows, takes, defers, keeps, size, events, response}
use Rattle.spec_language.specs.Order.{up_to, phase_one}

-- off and on mask interrupts; copy brings a value from the store (01: board) to scratch, restore from scratch to the
-- store; push puts a constant on the evaluation stack, load a value of the store, fetch one of scratch; apply takes a
-- function's arguments and puts its result; save takes the top into scratch, defer into a place of its own; move brings
-- a deferred value to scratch
pub data Instr : Type 0 where
  off on : Instr
  copy restore load fetch save defer move : ℕ → Instr
  push apply : ℕ → Instr
  deriving Discrete as Instr-discrete

-- C: "the set of all passives and of the actives it writes"
abbrev pub copied : Response → Bool
copied (follows x) = true
copied (takes x) = true
copied (defers x) = true
copied keeps = false

abbrev pub in_c : Program → ℕ → ℕ → Bool
in_c p e i = copied (response p e i)

-- "Names in C mean scratch, others the board." An application's arguments' code stands before it in their order.
unfoldable pub postfix : (ℕ → Bool) → Expr → List Instr
postfix c (con w) = push w ∷ []
postfix c (name i) = pick (c i) (fetch i) (load i) ∷ []
postfix c (app1 f a) = postfix c a ++ (apply f ∷ [])
postfix c (app2 f a b) = postfix c a ++ (postfix c b ++ (apply f ∷ []))
postfix c (app3 f a b d) = postfix c a ++ (postfix c b ++ (postfix c d ++ (apply f ∷ [])))

-- what each behaviour gives: its number first if it is in C
abbrev pub of_c : (ℕ → Instr) → ℕ → Response → List Instr
of_c f i r = pick (copied r) (f i ∷ []) []

-- the first time: passives and immediate handlers
abbrev pub first_code : (ℕ → Bool) → ℕ → Response → List Instr
first_code c i (follows x) = postfix c x ++ (save i ∷ [])
first_code c i (takes x) = postfix c x ++ (save i ∷ [])
first_code c i (defers x) = []
first_code c i keeps = []

-- later handlers, and their moves
abbrev pub later_code : (ℕ → Bool) → ℕ → Response → List Instr
later_code c i (follows x) = []
later_code c i (takes x) = []
later_code c i (defers x) = postfix c x ++ (defer i ∷ [])
later_code c i keeps = []

abbrev pub move_code : ℕ → Response → List Instr
move_code i (follows x) = []
move_code i (takes x) = []
move_code i (defers x) = move i ∷ []
move_code i keeps = []

-- the second time: passives
abbrev pub again_code : (ℕ → Bool) → ℕ → Response → List Instr
again_code c i (follows x) = postfix c x ++ (save i ∷ [])
again_code c i (takes x) = []
again_code c i (defers x) = []
again_code c i keeps = []

module _ (p : Program) (e : ℕ) where
  -- a part that goes by number, and one that goes in phase one's order
  abbrev pub by_number : (ℕ → Response → List Instr) → List Instr
  by_number f = flatten (up_to (size p) (λ i. f i (response p e i)))

  unfoldable pub in_order : (ℕ → Response → List Instr) → List ℕ → List Instr
  in_order f = flat_map (λ i. f i (response p e i))

  -- the two masked stretches, and what lies between them
  unfoldable pub copy_part : List Instr
  copy_part = off ∷ (by_number (of_c copy) ++ (on ∷ []))

  unfoldable pub first_part : List Instr
  first_part = in_order (first_code (in_c p e)) (phase_one p e) ++ by_number (later_code (in_c p e))

  unfoldable pub second_part : List Instr
  second_part = by_number move_code ++ in_order (again_code (in_c p e)) (phase_one p e)

  unfoldable pub restore_part : List Instr
  restore_part = off ∷ (by_number (of_c restore) ++ (on ∷ []))

  unfoldable pub code : List Instr
  code = copy_part ++ (first_part ++ (second_part ++ restore_part))

-- ---- 01's count

-- "An expression's size is its count of constants, names and applications"
unfoldable pub size_of : Expr → ℕ
size_of (con w) = 1
size_of (name i) = 1
size_of (app1 f a) = size_of a + 1
size_of (app2 f a b) = size_of a + size_of b + 1
size_of (app3 f a b c) = size_of a + size_of b + size_of c + 1

-- what a behaviour adds: 2 as a member of C; 2 × (size + 1) for a passive, size + 1 for an immediate handler, size + 2
-- for a later one
abbrev pub share : Response → ℕ
share (follows x) = 2 + 2 * (size_of x + 1)
share (takes x) = 2 + (size_of x + 1)
share (defers x) = 2 + (size_of x + 2)
share keeps = 0

-- "4 + 2 × (members of C) + .." for one event, and for all events together
unfoldable pub instructions : Program → ℕ → ℕ
instructions p e = 4 + sum ◌+◌ 0 (up_to (size p) (λ i. share (response p e i)))

unfoldable pub all_instructions : Program → ℕ
all_instructions p = sum ◌+◌ 0 (up_to (events p) (instructions p))

-- members of C
abbrev pub one? : Bool → ℕ
one? true = 1
one? false = 0

unfoldable pub members : Program → ℕ → ℕ
members p e = sum ◌+◌ 0 (up_to (size p) (λ i. one? (in_c p e i)))
