-- The lowest number first among those whose needs are met, on a dependence matrix and bytes that mark who is placed.
-- The code has both as sets of bits (specs/Sets.antt).
use Rattle.std.specs.Prelude.{ℕ, zero, suc, ◌+◌, ◌*◌, ◌<◌, Bool, true, false, not, ◌≡◌, Option, Some, None, List, ◌++◌, length, get_or, set, drop, eqb, ltb}
use Rattle.lib_base.specs.Basics.{pick}
use Rattle.spec_language.specs.Order.{order, up_to}
use Rattle.check_graph.specs.Matrix.{cell}

-- i needs j, and j is not marked
unfoldable pub lacks_need : List ℕ → List ℕ → ℕ → ℕ → Bool
lacks_need m marks i j = pick (eqb (get_or m (i * 64 + j) 0) 0) false (eqb (get_or marks j 0) 0)

-- the needs of i among the first k are marked
unfoldable pub met_on : List ℕ → List ℕ → ℕ → ℕ → Bool
met_on m marks i zero = true
met_on m marks i (suc k) = elim (lacks_need m marks i k) [ true ↦ false | false ↦ met_on m marks i k ]

-- i is not marked, and its needs are met
unfoldable pub ready_on : List ℕ → List ℕ → ℕ → ℕ → Bool
ready_on m marks n i = pick (eqb (get_or marks i 0) 0) (met_on m marks i n) false

-- the lowest of k numbers from i on that is ready; if there is none, the number after them
unfoldable pub find_on : List ℕ → List ℕ → ℕ → ℕ → ℕ → ℕ
find_on m marks n zero i = i
find_on m marks n (suc k) i = elim (ready_on m marks n i) [ true ↦ i | false ↦ find_on m marks n k (suc i) ]

-- the same as the code gives it
abbrev pub FoundOn : List ℕ → List ℕ → ℕ → Option ℕ → Type 0
FoundOn m marks n None = find_on m marks n n 0 ≡ n
FoundOn m marks n (Some i) = (i < n) × (find_on m marks n n 0 ≡ i)

-- how many are placed, the marks, and the bytes that name them
abbrev pub Placed : Type 0
Placed = ℕ × List ℕ × List ℕ

abbrev pub placed : ℕ → List ℕ → List ℕ → Placed
placed count marks out = (count, marks, out)

-- at most k numbers, each chosen anew and written from `count` on
unfoldable pub order_on : List ℕ → ℕ → ℕ → List ℕ → ℕ → List ℕ → Placed
order_on m n zero marks count out = placed count marks out
order_on m n (suc k) marks count out =
    elim (ltb (find_on m marks n n 0) n) [
      | true ↦ order_on m n k (set marks (find_on m marks n n 0) 1) (suc count) (set out count (find_on m marks n n 0))
      | false ↦ placed count marks out
    ]

-- ---- what it stands for

-- j is marked
abbrev pub is_marked : List ℕ → ℕ → Bool
is_marked marks j = not (eqb (get_or marks j 0) 0)

-- the order of the first n
abbrev pub ordered : List ℕ → ℕ → List ℕ → List ℕ
ordered m n marks = order n (λ i j. cell m i j) n (up_to n (λ i. is_marked marks i))

-- the bytes begin with o and are `out` beyond it; the count is o's length
abbrev pub OrderWritten : List ℕ → List ℕ → Placed → Type 0
OrderWritten o out (count, marks, bytes) = (count ≡ length o) × (bytes ≡ o ++ drop (length o) out)
