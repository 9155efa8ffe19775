-- Walks that end at behaviour i, by their number of steps, on rows of 64 bits (crate check_graph) as the matrix m that
-- they stand for, cell m j h, that j depends on h; bit (get_or s k 0) j, that there is a walk of k steps from j.
use Rattle.std.specs.Prelude.{ℕ, zero, suc, ◌+◌, ◌-◌, ◌≤◌, ◌<◌, Bool, true, false, ◌&&◌, ◌≡◌, List, ◌++◌, eqb, length, get_or, drop, Option, Some, None}
use Rattle.lib_base.specs.Basics.{All}
use Rattle.lib_bits.specs.Bits.{bit}
use Rattle.check_graph.specs.Any.{any_below}
use Rattle.check_graph.specs.Matrix.{cell}
use Rattle.check_distance.specs.Circle.{Circle}

-- there is a walk of k steps from j to i among the first n
unfoldable pub layer : (ℕ → ℕ → Bool) → ℕ → ℕ → ℕ → ℕ → Bool
layer dep n zero i j = eqb i j
layer dep n (suc k) i j = any_below n (λ h. dep j h && layer dep n k i h)

-- the lowest of k numbers from a on of which f is true; if there is none, the number after them
unfoldable pub least_from : (ℕ → Bool) → ℕ → ℕ → ℕ
least_from f zero a = a
least_from f (suc k) a = elim (f a) [ true ↦ a | false ↦ least_from f k (suc a) ]

-- how many steps lead from i back to i, at least one and at most n; n + 1 if there is no such walk
unfoldable pub steps_back : (ℕ → ℕ → Bool) → ℕ → ℕ → ℕ
steps_back dep n i = least_from (λ k. layer dep n k i i) n 1

-- ---- what the code does

-- from j on to one of the set
unfoldable pub walks_on : List ℕ → ℕ → ℕ → ℕ → Bool
walks_on m set j h = cell m j h && bit set h

-- those of the first n that lead to one of the set
pub record Leading (m : List ℕ) (n set set' : ℕ) : Type 0 where
  pub row : (j : ℕ) → j < n → bit set' j ≡ any_below n (walks_on m set j)

-- s has the walks to i of up to k steps
pub record Layered (m : List ℕ) (n i : ℕ) (s : List ℕ) (k : ℕ) : Type 0 where
  pub walks : (q j : ℕ) → q ≤ k → j < n → bit (get_or s q 0) j ≡ layer (λ a b. cell m a b) n q i j

-- r steps lead from i back to i, at most n, and s has the walks of fewer
pub record Back (m : List ℕ) (n i r : ℕ) (s : List ℕ) : Type 0 where
  pub steps : r ≡ steps_back (λ a b. cell m a b) n i
  pub few : r ≤ n
  pub layers : Layered m n i s (r - 1)

-- how many steps lead from i back to i; none if there is no such walk
abbrev pub BackIfAny : List ℕ → ℕ → ℕ → Option ℕ → List ℕ → Type 0
BackIfAny m n i None s = steps_back (λ a b. cell m a b) n i ≡ n + 1
BackIfAny m n i (Some r) s = Back m n i r s

-- r of the first n, each depending on the next and the last on the first, are the first bytes of the list; its other
-- bytes are as they were
pub record Walked (m : List ℕ) (n r : ℕ) (list list' : List ℕ) : Type 0 where
  pub members : List ℕ
  pub count : length members ≡ r
  pub below : All (λ j. j < n) members
  pub circle : Circle (λ a b. cell m a b) members
  pub bytes : list' ≡ members ++ drop r list
