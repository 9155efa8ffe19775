-- The names in a draft's entries and the sets that an event writes and names, in the code's tests and order.
use Rattle.std.specs.Prelude.{ℕ, zero, suc, ◌+◌, ◌<◌, Bool, ◌&&◌, ◌||◌, List, get_or, eqb, leb}
use Rattle.lib_bits.specs.Bits.{Gathers}
use Rattle.draft_form.specs.Draft.{entry_of, used_by}
use Rattle.draft_form.specs.Entry.{entry_kind, entry_start, entry_count, node_tag, node_word}
use Rattle.check_graph.specs.Any.{any_below}

-- node x is the name of j
unfoldable pub is_name : ℕ → ℕ → Bool
is_name j x = eqb (node_tag x) 17 && eqb (node_word x) j

-- the name of j is among n nodes from `start` on
unfoldable pub named_among : List ℕ → ℕ → ℕ → ℕ → Bool
named_among d j start n = any_below n (λ k. is_name j (get_or d (start + k) 0))

-- what the draft has for behaviour i on event e names j, as i means its names (02, M-110)
unfoldable pub names_on : List ℕ → ℕ → ℕ → ℕ → Bool
names_on d e i j = named_among (used_by d i) j (entry_start (entry_of d e i)) (entry_count (entry_of d e i))

-- it is a handler, of either phase
unfoldable pub writes_on : List ℕ → ℕ → ℕ → Bool
writes_on d e i = leb 2 (entry_kind (entry_of d e i))

-- a handler for event e, of one of n behaviours, names j
unfoldable pub handlers_name : List ℕ → ℕ → ℕ → ℕ → Bool
handlers_name d e n j = any_below n (λ i. writes_on d e i && names_on d e i j)

-- what the draft has for i under no event, whose number is ev, is a passive's expression that names j
unfoldable pub passive_on : List ℕ → ℕ → ℕ → ℕ → Bool
passive_on d ev i j = eqb (entry_kind (entry_of d ev i)) 1 && names_on d ev i j

-- from i to j by a chain through the first k
unfoldable pub closed_by : ℕ → (ℕ → ℕ → Bool) → ℕ → ℕ → Bool
closed_by zero dep i j = dep i j
closed_by (suc k) dep i j = closed_by k dep i j || (closed_by k dep i k && closed_by k dep k j)

-- a handler for event e names j, directly or through passives
unfoldable pub named_on : List ℕ → ℕ → ℕ → ℕ → ℕ → Bool
named_on d ev n e j = handlers_name d e n j || any_below n (λ i. handlers_name d e n i && closed_by n (passive_on d ev) i j)

-- row i of the buffer is the set of what i depends on, among n
abbrev pub RowsBy : (ℕ → ℕ → Bool) → ℕ → List ℕ → Type 0
RowsBy dep n rows = (i : ℕ) → i < n → Gathers n (get_or rows i 0) (dep i)

-- for each of ev events, the set that it writes
abbrev pub WritesIn : List ℕ → ℕ → ℕ → List ℕ → Type 0
WritesIn d ev n writes = (e : ℕ) → e < ev → Gathers n (get_or writes e 0) (writes_on d e)

-- and the set that its handlers name
abbrev pub NamedIn : List ℕ → ℕ → ℕ → List ℕ → Type 0
NamedIn d ev n named = (e : ℕ) → e < ev → Gathers n (get_or named e 0) (named_on d ev n e)
