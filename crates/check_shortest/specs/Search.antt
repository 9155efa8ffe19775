-- The search for a shortest circle on a draft, and what it finds. Of two walks of as many steps the one passed first
-- stays, so that none, whose turn is first, goes before the events.
use Rattle.std.specs.Prelude.{ℕ, ◌+◌, ◌*◌, ◌-◌, ◌≤◌, ◌<◌, ◌⊎◌, ◌≡◌, List, ◌++◌, ltb, leb, eqb, length, take, drop, Option, Some, None}
use Rattle.lib_base.specs.Basics.{pick, All}
use Rattle.check_graph.specs.Matrix.{cell, cell_below}
use Rattle.check_faults.specs.Checks.{matrix_on}
use Rattle.check_distance.specs.Circle.{Circle}
use Rattle.check_distance.specs.Layers.{steps_back, Walked}
use Rattle.check_shortest.specs.EventNumber.{event_number}
use Rattle.check_shortest.specs.declared.Walk.{Walk}

-- the steps from i back to i on event e
unfoldable pub back_on : List ℕ → ℕ → ℕ → ℕ → ℕ
back_on d e n i = steps_back (λ a b. cell (matrix_on d e n) a b) n i

-- the events in turn: none, which is the number after the last, and then those declared
unfoldable pub event_of_turn : ℕ → ℕ → ℕ
event_of_turn ev t = pick (eqb t 0) ev (t - 1)

-- the first walk, if there is one and the second has no fewer steps; else the second
unfoldable pub shorter_of : Option Walk → Walk → Walk
shorter_of None second = second
shorter_of (Some first) second = pick (leb first.steps second.steps) first second

-- behaviour j in turn u is passed when all turns below t are, and of turn t the first i behaviours
abbrev pub Passed : ℕ → ℕ → ℕ → ℕ → ℕ → Type 0
Passed n t i u j = (j < n) × ((u < t) ⊎ ((u ≡ t) × (j < i)))

-- of the walks back of those passed, w has the fewest steps, and fewer than all of earlier turns
pub record Fewest (d : List ℕ) (ev n t i : ℕ) (w : Walk) : Type 0 where
  pub turn : ℕ
  pub event : w.event ≡ event_of_turn ev turn
  pub passed : Passed n t i turn w.behaviour
  pub steps : w.steps ≡ back_on d w.event n w.behaviour
  pub few : w.steps ≤ n
  pub least : (u j : ℕ) → Passed n t i u j → w.steps ≤ back_on d (event_of_turn ev u) n j
  pub earlier : (u j : ℕ) → Passed n t i u j → u < turn → w.steps < back_on d (event_of_turn ev u) n j

-- none where none of those passed has a walk back
abbrev pub FewestIfAny : List ℕ → ℕ → ℕ → ℕ → ℕ → Option Walk → Type 0
FewestIfAny d ev n t i None = (u j : ℕ) → Passed n t i u j → n < back_on d (event_of_turn ev u) n j
FewestIfAny d ev n t i (Some w) = Fewest d ev n t i w

-- and fewer than those of lower behaviours of its own turn: of as many steps the first passed stays
pub record Earliest (d : List ℕ) (ev n t i : ℕ) (w : Walk) : Type 0 where
  pub fewest : Fewest d ev n t i w
  pub lowest : (j : ℕ) → j < w.behaviour → w.steps < back_on d w.event n j

abbrev pub EarliestIfAny : List ℕ → ℕ → ℕ → ℕ → ℕ → Option Walk → Type 0
EarliestIfAny d ev n t i None = FewestIfAny d ev n t i None
EarliestIfAny d ev n t i (Some w) = Earliest d ev n t i w

-- what the search asks of a draft: its matrices are whole
abbrev pub Wide : List ℕ → ℕ → ℕ → Type 0
Wide d ev n = (e : ℕ) → e ≤ ev → length (matrix_on d e n) ≡ 4096

-- r behaviours of a shortest walk from i back to i on event e, in the first bytes
pub record CircleMembers (d : List ℕ) (e n i r : ℕ) (list list' : List ℕ) : Type 0 where
  pub steps : r ≡ back_on d e n i
  pub walked : Walked (matrix_on d e n) n r list list'

-- the list with r bytes at its start, where it has room for them
unfoldable pub handed : List ℕ → ℕ → List ℕ → List ℕ
handed members r list = pick (ltb (length list) r) list (take r members ++ drop r list)

-- what is found: on some event or on none a circle, and no circle on any event or none has fewer members; none where
-- none has one as short; its members in the first bytes of a list that has room for them, and any other list as it was
pub record ShortestFound (d : List ℕ) (ev n : ℕ) (list : List ℕ) (r : ℕ) (list' : List ℕ) : Type 0 where
  pub event : ℕ
  pub declared : event ≤ ev
  pub members : List ℕ
  pub below_n : All (λ j. j < n) members
  pub circle : Circle (λ a b. cell (matrix_on d event n) a b) members
  pub answer : r ≡ 12 + event_number event ev * 256 + length members * 65536
  pub shortest : (f : ℕ) → f ≤ ev → (l : List ℕ) → Circle (cell_below n (matrix_on d f n)) l → length members ≤ length l
  pub none_first : (l : List ℕ) → Circle (cell_below n (matrix_on d ev n)) l → length l ≤ length members → event ≡ ev
  pub fits : length members ≤ length list → list' ≡ members ++ drop (length members) list
  pub short : length list < length members → list' ≡ list
