-- "The lowest number first among those whose needs are met." 01 "Handlers and steps".
use Rattle.std.specs.Prelude.{ℕ, zero, suc, Bool, true, false, not, ◌&&◌, List, [], ◌∷◌, get_or, set}
use Rattle.std.proofs.Math.Option.{Option, none, some}
use Rattle.spec_language.specs.Syntax.{Program}
use Rattle.spec_language.specs.Dependence.{Response, follows, takes, defers, keeps, size, response, depends_on}

-- n numbers, and what each needs; the marks say who is placed
module _ (n : ℕ) (dep : ℕ → ℕ → Bool) where
  -- the needs of i among the first k are marked
  unfoldable pub met : ℕ → ℕ → List Bool → Bool
  met i zero m = true
  met i (suc k) m = elim (dep i k && not (get_or m k false)) [ true ↦ false | false ↦ met i k m ]

  -- the lowest of k numbers from i on that is not marked and whose needs are met
  unfoldable pub find : ℕ → ℕ → List Bool → Option ℕ
  find zero i m = none
  find (suc k) i m = elim (not (get_or m i false) && met i n m) [ true ↦ some i | false ↦ find k (suc i) m ]

  -- at most k numbers, each chosen anew
  unfoldable pub order : ℕ → List Bool → List ℕ
  order zero m = []
  order (suc k) m = elim (find n 0 m) [ none ↦ [] | some i ↦ i ∷ order k (set m i true) ]

-- f of each number below n
unfoldable pub up_to : {A : Type 0} → ℕ → (ℕ → A) → List A
up_to zero f = []
up_to (suc n) f = f zero ∷ up_to n (λ i. f (suc i))

-- passives and immediate handlers have their turn in phase one; the others are met at once
abbrev pub early : Response → Bool
early (follows x) = true
early (takes x) = true
early (defers x) = false
early keeps = false

unfoldable pub met_at_once : Program → ℕ → List Bool
met_at_once p e = up_to (size p) (λ i. not (early (response p e i)))

-- phase one's order on event e
unfoldable pub phase_one : Program → ℕ → List ℕ
phase_one p e = order (size p) (depends_on p e) (size p) (met_at_once p e)
