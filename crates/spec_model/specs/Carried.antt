-- The store (01: board) that a change of sheets leads to, as an evaluator and by Figure 1's rules. 02, M-112.
use Rattle.std.specs.Prelude.{ℕ, ◌<◌, Bool, true, false, ◌&&◌, ◌≡◌, List, ltb, length}
use Rattle.lib_base.specs.Basics.{pick}
use Rattle.spec_language.specs.Syntax.{Handler, Behaviour, passive, active, Program}
use Rattle.spec_language.specs.Dependence.{size, no_event, behaviour_at, is_active}
use Rattle.spec_language.specs.Order.{up_to}
use Rattle.spec_semantics.specs.Meaning.{at, first_phase, with_store}
use Rattle.spec_semantics.specs.Rules.{Shows}

-- number i is an active's in a program; past its end there is none
abbrev pub is_active_in : Program → ℕ → Bool
is_active_in p i = ltb i (size p) && is_active (behaviour_at p i)

-- "Actives that are active in both keep their value, other actives take the new start": of a behaviour of the new
-- program, its number being an active's in the old or not, and its value there. A passive's place is 0 until it is
-- worked out.
abbrev pub carried_start : Bool → ℕ → Behaviour → ℕ
carried_start both v (passive x) = 0
carried_start both v (active c hs) = pick both v c

-- the new program's actives, from a store of the old one
unfoldable pub carried_actives : Program → Program → List ℕ → List ℕ
carried_actives p q s = up_to (size q) (λ i. carried_start (is_active_in p i) (at s i) (behaviour_at q i))

-- "passives are worked out anew": as compile works a fresh round's out, under no event
unfoldable pub carried : Program → Program → List ℕ → List ℕ
carried p q s = first_phase q (no_event q) (carried_actives p q s)

-- ---- the same by the rules: p's store s is carried to q's store s'

pub record Carries (p q : Program) (s s' : List ℕ) : Type 0 where
  pub sized : length s' ≡ size q
  pub kept : (i : ℕ) → is_active_in p i ≡ true → is_active_in q i ≡ true → at s' i ≡ at s i
  pub begun : (i c : ℕ) (hs : List Handler) → i < size q → is_active_in p i ≡ false → behaviour_at q i ≡ active c hs → at s' i ≡ c
  pub shown : (i : ℕ) → i < size q → Shows (with_store q s') i (at s' i)
