-- The rows as sets are the rows of the matrix: both take in the same names, node by node.
use Rattle.lib_base.proofs.Prelude.{ℕ, ◌≤◌, ◌<◌, ◌+◌, suc, zero, ◌*◌, ◌≡◌, refl, ◌∙◌, sym, ap, subst, true, false}
use Rattle.lib_base.proofs.Prelude.{Bool, ◌||◌, ◌&&◌, not, or-false, and-false, ◌≢◌, by_cases, List, [], ◌∷◌, length}
use Rattle.lib_base.proofs.Prelude.{get_or, take, drop, length-drop, length-take-le, get_or-take}
use Rattle.lib_base.proofs.Prelude.{get_or-drop, take-suc, eqb, ltb, add-one, dec_lt, ne_eqb, eqb-true, le-ltb, lt-ltb}
use Rattle.lib_base.proofs.Prelude.{eq-eqb, eqb-false, arith}
use Rattle.lib_base.proofs.Tools.{split}
use Rattle.lib_bits.specs.Bits.{bit}
use Rattle.lib_bits.proofs.BitLaws.{bit_none}
use Rattle.spec_language.specs.Code.{one?}
use Rattle.draft_form.specs.Draft.{draft_length, entry_of, used_by, moved}
use Rattle.draft_form.specs.Entry.{entry_kind, entry_start, entry_count, node_tag, node_word}
use Rattle.draft_form.proofs.DraftLaws.{length_used, used_at}
use Rattle.check_graph.specs.Matrix.{cell}
use Rattle.check_graph.specs.Sets.{bytes_of}
use Rattle.check_graph.proofs.SetLaws.{cell_bytes_law}
use Rattle.check_faults.specs.Checks.{node_names, some_node_names, needs_on, RowsAre, zero_bytes, mark_entry, mark_rows, matrix_on, RowsInside}
use Rattle.check_faults.proofs.Blank.{blank_at, length_blank}
use Rattle.check_faults.proofs.MatrixAgrees.{no_name, no_match, no_own, a_name, named_join, nodes_here, entry_other, rows_left, length_mark_rows}

-- ---- one node

module _ (n but x b : ℕ) where
  abbrev adds : Bool
  adds = ltb b n && node_names but b x

  nothing : adds ≡ false → (s : Bool) → s ≡ s || adds
  nothing e s = sym (rw e (or-false s))

  no_names : node_names but b x ≡ false → (s : Bool) → s ≡ s || adds
  no_names e = nothing (rw e (and-false (ltb b n)))

  pub add_other : node_tag x ≢ 17 → (s : Bool) → s ≡ s || adds
  add_other h = no_names (no_name but b x (ne_eqb (node_tag x) 17 h))

  pub add_far : n ≤ node_word x → (s : Bool) → s ≡ s || adds
  add_far h = by_cases (dec_lt b n) (λ p. no_names (no_match but b x (omega arith))) (λ p. nothing (rw (le-ltb b n (omega arith))))

  pub add_own : node_word x ≡ but → (s : Bool) → s ≡ s || adds
  add_own h =
      no_names (split (eqb but b) (λ t. no_own but b x (eqb-true but b t)) (λ t. no_match but b x (λ q. eqb-false but b t (sym h ∙ q))))

  pub add_one_name : node_tag x ≡ 17 → node_word x < n → node_word x ≢ but → (s : Bool) → s || eqb b (node_word x) ≡ s || adds
  add_one_name t h k s =
      ap (λ (y : Bool). s || y)
      (split (eqb b (node_word x))
      (λ q. let z : b ≡ node_word x = eqb-true b (node_word x) q in
      q ∙ sym (rw (lt-ltb b n (omega arith), a_name but b x (eq-eqb (node_tag x) 17 t) (sym z) (λ y. k (sym (y ∙ z)))) refl))
      (λ q. q ∙ sym (rw (no_match but b x (λ y. eqb-false b (node_word x) q (sym y))) (and-false (ltb b n)))))

-- ---- a list of nodes

both : (l a m : Bool) → (l && a) || (l && m) ≡ l && (a || m)
both true a m = refl
both false a m = refl

pub record Gathered (d : List ℕ) (i but n start s k : ℕ) : Type 0 where
  pub bits : (b : ℕ) → bit s b ≡ ltb b n && some_node_names but b (take k (drop start (used_by d i)))

-- the nodes of an entry, and the one of number k
pub nodes_long : (d xs : List ℕ) (start count : ℕ) → xs ≡ take count (drop start d) → start + count ≤ length d → length xs ≡ count
nodes_long d xs start count q h = rw q (length-take-le count (drop start d) (rw length-drop (omega arith)))

pub node_at : (d xs : List ℕ) (start count k : ℕ) → xs ≡ take count (drop start d) → k < count → get_or xs k 0 ≡ get_or d (start + k) 0
node_at d xs start count k q h = rw q (get_or-take count (drop start d) k 0 h ∙ get_or-drop start d k 0)

pub gathered_start : (d : List ℕ) (i but n start : ℕ) → Gathered d i but n start 0 0
unfolding some_node_names
gathered_start d i but n start = record { bits = λ b. bit_none b ∙ sym (and-false (ltb b n)) }

pub gathered_turn : {d : List ℕ} {i but n start s s' k x : ℕ} → Gathered d i but n start s k → start + k < length d → x ≡ moved d i (get_or d (start + k) 0)
    → ((b : ℕ) → bit s' b ≡ bit s b || (ltb b n && node_names but b x)) → Gathered d i but n start s' (k + 1)
unfolding some_node_names
gathered_turn {d} {i} {but} {n} {start} {s} {s'} {k} {x} g l q e =
    let u = used_by d i in
    let r : k < length (drop start u) = rw length-drop (omega (arith, length_used d i)) in
    let z : x ≡ get_or (drop start u) k 0 = q ∙ sym (used_at d i (start + k)) ∙ sym (get_or-drop start u k 0) in
    let more : (b : ℕ) → some_node_names but b (take (suc k) (drop start u)) ≡ some_node_names but b (take k (drop start u)) || node_names but b x =
    λ b. rw (take-suc (drop start u) k 0 r, named_join but b (take k (drop start u)) (get_or (drop start u) k 0 ∷ []), ← z, some_node_names, or-false) in
    record {
      bits = λ b. e b ∙ ap (λ (y : Bool). y || (ltb b n && node_names but b x)) (g.bits b) ∙ both (ltb b n) _ (node_names but b x)
          ∙ rw (add-one k) (ap (λ (y : Bool). ltb b n && y) (sym (more b)));
    }

-- ---- one row

module _ (d : List ℕ) (i v b : ℕ) where
  abbrev among : ℕ → Bool
  among but = some_node_names but b (take (entry_count v) (drop (entry_start v) (used_by d i)))

  pub needs_passive : entry_kind v ≡ 1 → among 64 ≡ needs_on d i v b
  unfolding needs_on
  needs_passive k = rw k

  pub needs_own : entry_kind v ≡ 2 → among i ≡ needs_on d i v b
  unfolding needs_on
  needs_own k = rw k

  pub needs_none : entry_kind v ≢ 1 → entry_kind v ≢ 2 → false ≡ needs_on d i v b
  unfolding needs_on
  needs_none h k = rw (ne_eqb (entry_kind v) 1 h, ne_eqb (entry_kind v) 2 k)

-- ---- all rows

pub record Filled (d : List ℕ) (e n : ℕ) (rows : List ℕ) (i : ℕ) : Type 0 where
  pub rows_so_far : (j b : ℕ) → j < i → bit (get_or rows j 0) b ≡ ltb b n && needs_on d j (entry_of d e j) b

-- ---- the matrix

abbrev at : List ℕ → ℕ → ℕ → ℕ
at m a b = get_or m (a * 64 + b) 0

module _ (d : List ℕ) (dl : length d ≡ draft_length) where
  entry_needs : (m : List ℕ) (i v b : ℕ) → length m ≡ 4096 → i < 64 → b < 64 → entry_start v + entry_count v ≤ 2048 → at m i b ≡ 0
      → at (mark_entry d m i v) i b ≡ one? (needs_on d i v b)
  unfolding mark_entry needs_on
  entry_needs m i v b l p h s z =
      let w : entry_start v + entry_count v ≤ length (used_by d i) = omega (arith, length_used d i) in
      split (eqb (entry_kind v) 1)
      (λ t. rw t (nodes_here (used_by d i) m i 64 (entry_start v) (entry_count v) b l p h w z))
      (λ t. split (eqb (entry_kind v) 2)
      (λ u. rw (t, u) (nodes_here (used_by d i) m i i (entry_start v) (entry_count v) b l p h w z))
      (λ u. rw (t, u) z))

  module _ (e : ℕ) where
    rows_need : (n : ℕ) → n ≤ 64 → RowsInside d e n → (i b : ℕ) → i < n → b < 64 → at (mark_rows d (zero_bytes 4096) e n) i b ≡ one? (needs_on d i (entry_of d e i) b)
    unfolding mark_rows
    rows_need zero s r i b h t = absurd (omega arith)
    rows_need (suc n) s r i b h t =
        let w = mark_rows d (zero_bytes 4096) e n in
        let l : length w ≡ 4096 = length_mark_rows d (zero_bytes 4096) e n ∙ length_blank 4096 in
        by_cases (dec_lt i n)
        (λ q. entry_other d w n (entry_of d e n) i b (omega arith) t ∙ rows_need n (omega arith) (λ j c. r j (omega arith)) i b q t)
        (λ q. let c : n ≡ i = omega arith in subst (λ y. at (mark_entry d w n (entry_of d e n)) y b ≡ one? (needs_on d y (entry_of d e y) b)) c
        (entry_needs w n (entry_of d e n) b l (omega arith) t (r n (omega arith)) (rows_left d (zero_bytes 4096) e n n b (omega arith) t ∙ blank_at 4096 (n * 64 + b))))

pub one_set : (b : Bool) → not (eqb (one? b) 0) ≡ b
one_set true = refl
one_set false = refl

pub length_matrix_on : (d : List ℕ) (e n : ℕ) → length (matrix_on d e n) ≡ 4096
unfolding matrix_on
length_matrix_on d e n = length_mark_rows d (zero_bytes 4096) e n ∙ length_blank 4096

pub cell_needs : (d : List ℕ) → length d ≡ draft_length → (e n : ℕ) → n ≤ 64 → RowsInside d e n → (i j : ℕ) → i < n → j < 64
    → cell (matrix_on d e n) i j ≡ needs_on d i (entry_of d e i) j
unfolding matrix_on
cell_needs d l e n few r i j h k = rw (rows_need d l e n few r i j h k) (one_set (needs_on d i (entry_of d e i) j))

-- the rows are those of the matrix
pub rows_same : (d : List ℕ) → length d ≡ draft_length → (e n : ℕ) → n ≤ 64 → RowsInside d e n → {rows : List ℕ} → RowsAre d e n rows → (i j : ℕ) → i < n → j < n
    → bit (get_or rows i 0) j ≡ cell (matrix_on d e n) i j
rows_same d l e n few r w i j h k = w.row i j h ∙ rw (lt-ltb j n k) (sym (cell_needs d l e n few r i j h (omega arith)))

-- so is the matrix that they stand for
pub rows_cells : (d : List ℕ) → length d ≡ draft_length → (e n : ℕ) → n ≤ 64 → RowsInside d e n → {rows : List ℕ} → RowsAre d e n rows → (i j : ℕ) → i < n → j < n
    → cell (bytes_of rows) i j ≡ cell (matrix_on d e n) i j
rows_cells d l e n few r {rows} w i j h k = cell_bytes_law rows i j (omega arith) (omega arith) ∙ rows_same d l e n few r w i j h k

pub rows_past : {d : List ℕ} {e n : ℕ} {rows : List ℕ} → RowsAre d e n rows → (i j : ℕ) → i < n → n ≤ j → bit (get_or rows i 0) j ≡ false
rows_past {n = n} w i j h k = w.row i j h ∙ rw (le-ltb j n k)
