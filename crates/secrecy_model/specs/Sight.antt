-- The rule for a player. 02, M-107: "For a player it shall hold: if no behaviour this player sees depends on a hidden
-- one (by a name in its expression or in a handler of either phase, directly or by a chain), then two rounds, from
-- fresh on with the same calls in the same order and the same parameters, their sheets differing only in start values
-- of hidden behaviours, give this player equal answers, refusals included." M-112: "M-107's rule for a player needs its
-- condition of both sheets, with the same behaviours hidden." Here of model engines; of the exported functions'
-- numbers: crate secrecy_engine, Heard.antt.
use Rattle.std.specs.Prelude.{ℕ, ◌<◌, Bool, true, false, ◌||◌, ◌≡◌, ◌⊎◌}
use mathlib.Core.List.{List, [], ◌∷◌, Forall₂}
use Rattle.spec_language.specs.Syntax.{Handler, handler, Behaviour, passive, active, Program}
use Rattle.spec_language.specs.Sheet.{Term, Clause, Item, formula, state, row, Entry, Sheet, allowed, fill}
use Rattle.spec_language.specs.Rights.{may, may_see}
use Rattle.spec_language.specs.Dependence.{size, behaviour_at, mentions, Reach}
use Rattle.spec_model.specs.Model.{Call, Turn, call, change, State, carried_over, turn}
use Rattle.spec_model.specs.Claims.{in_force}

-- ---- dependence by names, whatever the event

-- name j stands in a handler, of either phase and any event
unfoldable pub in_handlers : ℕ → List Handler → Bool
in_handlers j [] = false
in_handlers j (handler e φ x ∷ hs) = mentions j x || in_handlers j hs

-- "by a name in its expression or in a handler of either phase"
abbrev pub in_behaviour : ℕ → Behaviour → Bool
in_behaviour j (passive x) = mentions j x
in_behaviour j (active s hs) = in_handlers j hs

abbrev pub names : Program → ℕ → ℕ → Bool
names p i j = in_behaviour j (behaviour_at p i)

-- "no behaviour this player sees depends on a hidden one .. directly or by a chain": whatever a chain of names leads to
-- from one that it sees, it sees
abbrev pub Sealed : Program → ℕ → Type 0
Sealed p player = (i j : ℕ) → may_see p player i ≡ true → Reach (names p) i j → may_see p player j ≡ true

-- ---- "their sheets differing only in start values of hidden behaviours"

-- two behaviours or rows, seen or hidden: the same but for the start value of a hidden active or of a hidden row's
-- cells
pub data ItemAlike (seen : Bool) : Item → Item → Type 0 where
  two_formulas : {x : Term} → ItemAlike seen (formula x) (formula x)
  two_states : {s t : ℕ} {cs : List Clause} → (seen ≡ true → s ≡ t) → ItemAlike seen (state s cs) (state t cs)
  two_rows : {c s t : ℕ} {cs : List Clause} → (seen ≡ true → s ≡ t) → ItemAlike seen (row c s cs) (row c t cs)

-- with the same right to see
abbrev pub EntryAlike : ℕ → Entry → Entry → Type 0
EntryAlike player x y = (x.viewer ≡ y.viewer) × ItemAlike (may (allowed x.viewer) player) x.item y.item

-- the same events, and entries alike one by one, none left over (the library's `Forall₂`)
abbrev pub AlikeBut : ℕ → Sheet → Sheet → Type 0
AlikeBut player s t = (s.signals ≡ t.signals) × Forall₂ (EntryAlike player) s.entries t.entries

-- ---- the condition, of two sheets with the parameters lent to each: "the same parameters", or others where the
-- program filled in is the same

-- ---- "the same calls in the same order": a turn made in both rounds is the same call, or a change in each

pub data Pair : Type 0 where
  both : Call → Pair
  each : (ℕ → ℕ) → (ℕ → ℕ) → Sheet → Sheet → Pair

abbrev pub in_one : Pair → Turn
in_one (both c) = call c
in_one (each v w s t) = change (fill v s)

abbrev pub in_other : Pair → Turn
in_other (both c) = call c
in_other (each v w s t) = change (fill w t)

-- "with the same behaviours hidden": of those that both sheets have, that in force and the new one
abbrev pub SameHidden : ℕ → Program → Program → Type 0
SameHidden player p q = (i : ℕ) → i < size p → i < size q → may_see p player i ≡ may_see q player i

-- either round makes the change: one that both refuse is under no condition
abbrev pub EitherMakes : Turn → State → Turn → State → Type 0
EitherMakes t x u y = ((turn t x).reply ≡ carried_over) ⊎ ((turn u y).reply ≡ carried_over)

-- P of the first round's program in force, the parameters lent and the two sheets, at each change that is made, the
-- rounds being in these states
abbrev pub AtChanges : (Program → (ℕ → ℕ) → (ℕ → ℕ) → Sheet → Sheet → Type 0) → List Pair → State → State → Type 0
AtChanges P [] x y = Unit {0}
AtChanges P (both c ∷ l) x y = AtChanges P l (turn (call c) x).after (turn (call c) y).after
AtChanges P (each v w s t ∷ l) x y =
    (EitherMakes (change (fill v s)) x (change (fill w t)) y → P (in_force x) v w s t)
    × AtChanges P l (turn (change (fill v s)) x).after (turn (change (fill w t)) y).after

-- ---- "equal answers, refusals included"
