-- The checks of a whole program on its draft, in the code's tests and order.
use Rattle.std.specs.Prelude.{ℕ, zero, suc, ◌+◌, ◌*◌, ◌≤◌, ◌<◌, Bool, true, false, not, ◌&&◌, ◌||◌, ◌≡◌, List, [], ◌∷◌, get_or, set, replicate, take, drop, eqb, ltb, leb}
use Rattle.lib_base.specs.Basics.{pick}
use Rattle.lib_bits.specs.Bits.{bit}
use Rattle.draft_form.specs.Draft.{entry_of, used_by}
use Rattle.draft_form.specs.Entry.{entry_kind, entry_start, entry_count, node_tag, node_word}
use Rattle.check_graph.specs.Matrix.{cell, closed}
use Rattle.check_graph.specs.Sets.{bytes_of}
use Rattle.check_graph.specs.Any.{any_below}

-- ---- names

-- a node that names none of b behaviours
unfoldable pub stray : ℕ → ℕ → Bool
stray x b = pick (eqb (node_tag x) 17) (leb b (node_word x)) false

-- none of the first n nodes is one
unfoldable pub names_known : List ℕ → ℕ → ℕ → Bool
names_known d b zero = true
names_known d b (suc n) = elim (stray (get_or d n 0) b) [ true ↦ false | false ↦ names_known d b n ]

-- ---- the dependence matrix

unfoldable pub zero_bytes : ℕ → List ℕ
zero_bytes n = replicate n 0

-- row i takes in a name, but not that of number `but`
unfoldable pub mark_node : List ℕ → ℕ → ℕ → ℕ → List ℕ
mark_node m i but x = pick (eqb (node_tag x) 17) (pick (ltb (node_word x) 64) (pick (eqb (node_word x) but) m (set m (i * 64 + node_word x) 1)) m) m

-- the names among n nodes from `start` on
unfoldable pub mark_nodes : List ℕ → List ℕ → ℕ → ℕ → ℕ → ℕ → List ℕ
mark_nodes d m i but start zero = m
mark_nodes d m i but start (suc k) = mark_node (mark_nodes d m i but start k) i but (get_or d (start + k) 0)

-- by its entry v, a passive depends on every name, 64 being none; an immediate handler on every name but its own. The
-- names are those that behaviour i means (02, M-110)
unfoldable pub mark_entry : List ℕ → List ℕ → ℕ → ℕ → List ℕ
mark_entry d m i v =
    pick (eqb (entry_kind v) 1) (mark_nodes (used_by d i) m i 64 (entry_start v) (entry_count v))
    (pick (eqb (entry_kind v) 2) (mark_nodes (used_by d i) m i i (entry_start v) (entry_count v)) m)

-- the rows of the first n behaviours, on event e
unfoldable pub mark_rows : List ℕ → List ℕ → ℕ → ℕ → List ℕ
mark_rows d m e zero = m
mark_rows d m e (suc n) = mark_entry d (mark_rows d m e n) n (entry_of d e n)

unfoldable pub matrix_on : List ℕ → ℕ → ℕ → List ℕ
matrix_on d e n = mark_rows d (zero_bytes 4096) e n

-- ---- its rows as sets

-- node x names b, which is not `but`; one of the nodes does
unfoldable pub node_names : ℕ → ℕ → ℕ → Bool
node_names but b x = eqb (node_tag x) 17 && (eqb (node_word x) b && not (eqb but b))

unfoldable pub some_node_names : ℕ → ℕ → List ℕ → Bool
some_node_names but b [] = false
some_node_names but b (x ∷ l) = node_names but b x || some_node_names but b l

-- behaviour i with entry v needs b
unfoldable pub needs_on : List ℕ → ℕ → ℕ → ℕ → Bool
needs_on d i v b =
    pick (eqb (entry_kind v) 1) (some_node_names 64 b (take (entry_count v) (drop (entry_start v) (used_by d i))))
    (pick (eqb (entry_kind v) 2) (some_node_names i b (take (entry_count v) (drop (entry_start v) (used_by d i)))) false)

-- the needs among the first n of each of the first n behaviours, on event e
pub record RowsAre (d : List ℕ) (e n : ℕ) (rows : List ℕ) : Type 0 where
  pub row : (i b : ℕ) → i < n → bit (get_or rows i 0) b ≡ ltb b n && needs_on d i (entry_of d e i) b

-- ---- cycles

unfoldable pub closed_on : List ℕ → ℕ → ℕ → List ℕ
closed_on d e n = closed (matrix_on d e n) n

-- on one of the first ev events or the number after them, one of bs behaviours reaches itself
unfoldable pub cyclic_on : List ℕ → ℕ → ℕ → Bool
cyclic_on d ev bs = any_below (ev + 1) (λ e. any_below bs (λ i. cell (closed_on d e bs) i i))

-- none of the set reaches itself, by the rows of the first n
pub record PlacedOn (rows : List ℕ) (n set : ℕ) : Type 0 where
  pub none_round : (i : ℕ) → i < n → bit set i ≡ true → cell (closed (bytes_of rows) n) i i ≡ false

-- of who is not in the set the row after has what is reached from it, by the rows of the first n
pub record LeftClosed (rows : List ℕ) (set n : ℕ) (after : List ℕ) : Type 0 where
  pub reached : (i : ℕ) → i < n → bit set i ≡ false → bit (get_or after i 0) i ≡ cell (closed (bytes_of rows) n) i i

-- who is in the set does not reach itself, of another its row tells it
unfoldable pub left_round : ℕ → List ℕ → ℕ → Bool
left_round set rows b = pick (bit set b) false (bit (get_or rows b 0) b)

-- a set and rows that tell who reaches itself on event e
pub record RoundOn (d : List ℕ) (e n set : ℕ) (rows : List ℕ) : Type 0 where
  pub told : (b : ℕ) → b < n → left_round set rows b ≡ cell (closed_on d e n) b b

-- ---- what the code asks of a draft: the nodes of each entry lie among the 2,048

abbrev pub Inside : List ℕ → ℕ → ℕ → Type 0
Inside d e i = entry_start (entry_of d e i) + entry_count (entry_of d e i) ≤ 2048

abbrev pub RowsInside : List ℕ → ℕ → ℕ → Type 0
RowsInside d e n = (i : ℕ) → i < n → Inside d e i

abbrev pub AllInside : List ℕ → ℕ → ℕ → Type 0
AllInside d ev bs = (e : ℕ) → e ≤ ev → RowsInside d e bs
