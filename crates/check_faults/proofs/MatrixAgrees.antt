-- The matrix that the code fills is the program's: each cell is followed through the marks, row by row, and the names
-- of an expression are those of its nodes.
use Rattle.lib_base.proofs.Prelude.{ℕ, ◌≤◌, ◌<◌, ◌+◌, suc, zero, ◌*◌, ◌%◌, ◌/◌, ◌^◌, ◌≡◌, refl, ◌∙◌, sym, subst, true}
use Rattle.lib_base.proofs.Prelude.{false, Bool, ◌||◌, ◌&&◌, not, or-false, or-true, and-false, and-true, or_assoc, ◌≢◌}
use Rattle.lib_base.proofs.Prelude.{by_cases, List, [], ◌∷◌, ◌++◌, length, get_or, take, drop, length-set, set}
use Rattle.lib_base.proofs.Prelude.{length-drop, get_or-set_other, get_or-set_same, ext_get_or, get_or-drop, take-suc, eqb, ltb}
use Rattle.lib_base.proofs.Prelude.{dec_lt, ne_eqb, eqb-true, eq-eqb, ltb-false, eqb-false, ltb-true, arith}
use mathlib.Core.Bool.{and-or_distrib_right}
use Rattle.lib_base.proofs.Tools.{by_test, split}
use Rattle.spec_language.specs.Syntax.{Expr, Program}
use Rattle.spec_language.specs.Dependence.{Response, follows, takes, defers, keeps, mentions, needs, size, events, response, depends_on}
use Rattle.spec_language.specs.Grammar.{Arity, unary, ternary, binary}
use Rattle.spec_language.specs.Fits.{Nested, n_con, n_name, n_app1, n_app2, n_app3, Fits}
use Rattle.spec_language.specs.Code.{one?}
use Rattle.spec_language.proofs.Laws.{length_up_to, get_d_up_to, none_past, ResponseNested, response_nested}
use Rattle.draft_form.specs.Draft.{draft_length, nodes, entry_of, used_by, Drafted}
use Rattle.draft_form.specs.Entry.{entry_kind, entry_start, entry_count, node_tag, node_word}
use Rattle.draft_form.proofs.DraftLaws.{Holds, Entry, entry_of_law, length_used}
use Rattle.check_graph.specs.Matrix.{cell, closed}
use Rattle.check_graph.specs.Any.{any_below}
use Rattle.check_faults.specs.Faults.{matrix_of, cyclic_under, cyclic}
use Rattle.check_faults.specs.Checks.{node_names, some_node_names, zero_bytes, mark_node, mark_nodes, mark_entry, mark_rows, matrix_on, closed_on, cyclic_on}
use Rattle.check_faults.proofs.Blank.{blank_at, length_blank}
use Rattle.check_graph.proofs.Any.{any_same}

abbrev at : List ℕ → ℕ → ℕ → ℕ
at m a b = get_or m (a * 64 + b) 0

-- ---- one node

length_mark_node : (m : List ℕ) (i but x : ℕ) → length (mark_node m i but x) ≡ length m
unfolding mark_node
length_mark_node m i but x =
    by_test (λ (w : List ℕ). length w ≡ length m) (eqb (node_tag x) 17)
    (λ e. by_test (λ (w : List ℕ). length w ≡ length m) (ltb (node_word x) 64)
    (λ f. by_test (λ (w : List ℕ). length w ≡ length m) (eqb (node_word x) but) (λ g. refl) (λ g. length-set m (i * 64 + node_word x) 1))
    (λ f. refl))
    (λ e. refl)

-- another row stays
node_other : (m : List ℕ) (i but x a b : ℕ) → a ≢ i → b < 64 → at (mark_node m i but x) a b ≡ at m a b
unfolding mark_node
node_other m i but x a b n h =
    by_test (λ w. at w a b ≡ at m a b) (eqb (node_tag x) 17)
    (λ e. by_test (λ w. at w a b ≡ at m a b) (ltb (node_word x) 64)
    (λ f. by_test (λ w. at w a b ≡ at m a b) (eqb (node_word x) but) (λ g. refl)
    (λ g. let j = node_word x in let k : j < 64 = ltb-true (node_word x) 64 f in
    let d : a * 64 + b ≢ i * 64 + j = λ q. n (omega arith) in get_or-set_other m (i * 64 + j) (a * 64 + b) 1 0 d))
    (λ f. refl))
    (λ e. refl)

-- which nodes name b
pub no_name : (but b x : ℕ) → eqb (node_tag x) 17 ≡ false → node_names but b x ≡ false
unfolding node_names
no_name but b x e = rw e

pub no_match : (but b x : ℕ) → node_word x ≢ b → node_names but b x ≡ false
unfolding node_names
no_match but b x h = rw (ne_eqb (node_word x) b h) (and-false (eqb (node_tag x) 17))

pub no_own : (but b x : ℕ) → but ≡ b → node_names but b x ≡ false
unfolding node_names
no_own but b x h = rw (eq-eqb but b h) (rw (and-false (eqb (node_word x) b)) (and-false (eqb (node_tag x) 17)))

pub a_name : (but b x : ℕ) → eqb (node_tag x) 17 ≡ true → node_word x ≡ b → but ≢ b → node_names but b x ≡ true
unfolding node_names
a_name but b x e h n = rw (e, eq-eqb (node_word x) b h, ne_eqb but b n)

as_was : (v : ℕ) (s t : Bool) → t ≡ false → v ≡ one? s → v ≡ one? (s || t)
as_was v s t e h = rw (e, or-false s) h

-- its own row takes in the name
module _ (m : List ℕ) (i but x b : ℕ) (s : Bool) (l : length m ≡ 4096) (p : i < 64) (h : b < 64) (was : at m i b ≡ one? s) where
  name_set : eqb (node_tag x) 17 ≡ true → node_word x < 64 → node_word x ≢ but → at (set m (i * 64 + node_word x) 1) i b ≡ one? (s || node_names but b x)
  name_set e f n =
      split (eqb (node_word x) b)
      (λ t. let q : node_word x ≡ b = eqb-true (node_word x) b t in
      let r : node_names but b x ≡ true = a_name but b x e q (λ z. n (q ∙ sym z)) in
      rw (r, or-true s, q) (get_or-set_same m (i * 64 + b) 1 0 (omega arith)))
      (λ t. let d : node_word x ≢ b = eqb-false (node_word x) b t in
      let j = node_word x in
      let c : i * 64 + b ≢ i * 64 + j = λ q. d (omega arith) in
      as_was (at (set m (i * 64 + j) 1) i b) s (node_names but b x) (no_match but b x d) (get_or-set_other m (i * 64 + j) (i * 64 + b) 1 0 c ∙ was))

  node_here : at (mark_node m i but x) i b ≡ one? (s || node_names but b x)
  unfolding mark_node
  node_here =
      let same = as_was (at m i b) s (node_names but b x) in
      by_test (λ w. at w i b ≡ one? (s || node_names but b x)) (eqb (node_tag x) 17)
      (λ e. by_test (λ w. at w i b ≡ one? (s || node_names but b x)) (ltb (node_word x) 64)
      (λ f. by_test (λ w. at w i b ≡ one? (s || node_names but b x)) (eqb (node_word x) but)
      (λ g. same (split (eqb but b) (λ t. no_own but b x (eqb-true but b t))
      (λ t. no_match but b x (λ q. eqb-false but b t (sym (eqb-true (node_word x) but g) ∙ q)))) was)
      (λ g. name_set e (ltb-true (node_word x) 64 f) (eqb-false (node_word x) but g)))
      (λ f. same (no_match but b x (λ q. let k = ltb-false (node_word x) 64 f in omega arith)) was))
      (λ e. same (no_name but b x e) was)

-- ---- a list of nodes

pub named_join : (but b : ℕ) (l m : List ℕ) → some_node_names but b (l ++ m) ≡ some_node_names but b l || some_node_names but b m
unfolding some_node_names
named_join but b [] m = refl
named_join but b (x ∷ l) m = rw (named_join but b l m, or_assoc (node_names but b x) (some_node_names but b l) (some_node_names but b m))

length_mark_nodes : (d m : List ℕ) (i but start k : ℕ) → length (mark_nodes d m i but start k) ≡ length m
unfolding mark_nodes
length_mark_nodes d m i but start zero = refl
length_mark_nodes d m i but start (suc k) =
    length_mark_node (mark_nodes d m i but start k) i but (get_or d (start + k) 0) ∙ length_mark_nodes d m i but start k

nodes_other : (d m : List ℕ) (i but start k a b : ℕ) → a ≢ i → b < 64 → at (mark_nodes d m i but start k) a b ≡ at m a b
unfolding mark_nodes
nodes_other d m i but start zero a b n h = refl
nodes_other d m i but start (suc k) a b n h =
    node_other (mark_nodes d m i but start k) i but (get_or d (start + k) 0) a b n h ∙ nodes_other d m i but start k a b n h

pub nodes_here : (d m : List ℕ) (i but start k b : ℕ) → length m ≡ 4096 → i < 64 → b < 64 → start + k ≤ length d → at m i b ≡ 0
    → at (mark_nodes d m i but start k) i b ≡ one? (some_node_names but b (take k (drop start d)))
unfolding mark_nodes some_node_names
nodes_here d m i but start zero b l p h q z = z
nodes_here d m i but start (suc k) b l p h q z =
    let w = mark_nodes d m i but start k in
    let long : length w ≡ 4096 = length_mark_nodes d m i but start k ∙ l in
    let ih = nodes_here d m i but start k b l p h (omega arith) z in
    let r : k < length (drop start d) = rw length-drop (omega arith) in
    let e : some_node_names but b (take (suc k) (drop start d)) ≡ some_node_names but b (take k (drop start d)) || node_names but b (get_or d (start + k) 0) =
    rw (take-suc (drop start d) k 0 r, named_join but b (take k (drop start d)) (get_or (drop start d) k 0 ∷ []), get_or-drop start d k 0, some_node_names, or-false) in
    rw e (node_here w i but (get_or d (start + k) 0) b (some_node_names but b (take k (drop start d))) long p h ih)

-- ---- the nodes of an expression

con_names : (but b w : ℕ) → w < 2 ^ 32 → some_node_names but b ((68719476736 + w) ∷ []) ≡ false
unfolding some_node_names
con_names but b w h = rw (no_name but b (68719476736 + w) (ne_eqb (node_tag (68719476736 + w)) 17 (λ e. omega arith)), some_node_names)

app_names : (but b f n : ℕ) → Arity f n → some_node_names but b ((77309411328 + f) ∷ []) ≡ false
unfolding some_node_names
app_names but b f n unary = rw (no_name but b (77309411328 + f) (ne_eqb (node_tag (77309411328 + f)) 17 (λ e. omega arith)), some_node_names)
app_names but b f n ternary = rw (no_name but b (77309411328 + f) (ne_eqb (node_tag (77309411328 + f)) 17 (λ e. omega arith)), some_node_names)
app_names but b f n (binary h k q) = rw (no_name but b (77309411328 + f) (ne_eqb (node_tag (77309411328 + f)) 17 (λ e. omega arith)), some_node_names)

name_names : (but b i : ℕ) → i < 256 → some_node_names but b ((73014444032 + i) ∷ []) ≡ eqb i b && not (eqb but b)
unfolding some_node_names node_names
name_names but b i h =
    let t : node_tag (73014444032 + i) ≡ 17 = omega arith in
    let w : node_word (73014444032 + i) ≡ i = omega arith in
    rw (t, w, or-false)

expr_names : (but b : ℕ) {k : ℕ} {x : Expr} → Nested k x → some_node_names but b (nodes x) ≡ mentions b x && not (eqb but b)
unfolding nodes mentions
expr_names but b (n_con {w = w} h) = con_names but b w h
expr_names but b (n_name {i = i} h) = name_names but b i h
expr_names but b (n_app1 {f = f} {a = x} h hx) =
    rw (named_join but b (nodes x) ((77309411328 + f) ∷ []), app_names but b f 1 h, or-false) (expr_names but b hx)
expr_names but b (n_app2 {f = f} {a = x} {b = y} h hx hy) =
    rw (
      named_join but b (nodes x) (nodes y ++ ((77309411328 + f) ∷ [])),
      named_join but b (nodes y) ((77309411328 + f) ∷ []),
      app_names but b f 2 h,
      or-false,
      expr_names but b hx,
      expr_names but b hy,
    ) (sym (and-or_distrib_right (mentions b x) (mentions b y) (not (eqb but b))))
expr_names but b (n_app3 {f = f} {a = x} {b = y} {c = z} h hx hy hz) =
    rw (
      named_join but b (nodes x) (nodes y ++ (nodes z ++ ((77309411328 + f) ∷ []))),
      named_join but b (nodes y) (nodes z ++ ((77309411328 + f) ∷ [])),
      named_join but b (nodes z) ((77309411328 + f) ∷ []),
      app_names but b f 3 h,
      or-false,
      expr_names but b hx,
      expr_names but b hy,
      expr_names but b hz,
    )
    (rw (← and-or_distrib_right (mentions b y) (mentions b z) (not (eqb but b))) (sym (and-or_distrib_right (mentions b x) (mentions b y || mentions b z) (not (eqb but b)))))

-- ---- a row

length_mark_entry : (d m : List ℕ) (i v : ℕ) → length (mark_entry d m i v) ≡ length m
unfolding mark_entry
length_mark_entry d m i v =
    by_test (λ (w : List ℕ). length w ≡ length m) (eqb (entry_kind v) 1) (λ e. length_mark_nodes (used_by d i) m i 64 (entry_start v) (entry_count v))
    (λ e. by_test (λ (w : List ℕ). length w ≡ length m) (eqb (entry_kind v) 2) (λ f. length_mark_nodes (used_by d i) m i i (entry_start v) (entry_count v)) (λ f. refl))

pub entry_other : (d m : List ℕ) (i v a b : ℕ) → a ≢ i → b < 64 → at (mark_entry d m i v) a b ≡ at m a b
unfolding mark_entry
entry_other d m i v a b n h =
    by_test (λ w. at w a b ≡ at m a b) (eqb (entry_kind v) 1) (λ e. nodes_other (used_by d i) m i 64 (entry_start v) (entry_count v) a b n h)
    (λ e. by_test (λ w. at w a b ≡ at m a b) (eqb (entry_kind v) 2) (λ f. nodes_other (used_by d i) m i i (entry_start v) (entry_count v) a b n h) (λ f. refl))

module _ (d m : List ℕ) (i v b : ℕ) (dl : length d ≡ draft_length) (l : length m ≡ 4096) (p : i < 64) (h : b < 64) (z : at m i b ≡ 0) where
  -- the names of the expression that the entry holds
  held : (but kind : ℕ) (x : Expr) → Holds (used_by d i) kind v x → Nested 16 x
      → at (mark_nodes (used_by d i) m i but (entry_start v) (entry_count v)) i b ≡ one? (mentions b x && not (eqb but b))
  held but kind x e f =
      let s : entry_start v + entry_count v ≤ length (used_by d i) = omega (arith, e.inside, length_used d i) in
      let c : take (entry_count v) (drop (entry_start v) (used_by d i)) ≡ nodes x = rw e.count_is e.there in
      nodes_here (used_by d i) m i but (entry_start v) (entry_count v) b l p h s z ∙ rw (c, expr_names but b f)

  entry_here : (r : Response) → Entry (used_by d i) v r → ResponseNested r → at (mark_entry d m i v) i b ≡ one? (needs i b r)
  unfolding mark_entry
  entry_here (follows x) e f =
      let q : eqb 64 b ≡ false = ne_eqb 64 b (λ t. omega arith) in
      rw (eq-eqb (entry_kind v) 1 e.kind_is) (held 64 1 x e f ∙ rw (q, and-true))
  entry_here (takes x) e f =
      let q : eqb (entry_kind v) 1 ≡ false = ne_eqb (entry_kind v) 1 (λ t. omega (arith, e.kind_is)) in
      rw (q, eq-eqb (entry_kind v) 2 e.kind_is) (held i 2 x e f)
  entry_here (defers x) e f =
      let q : eqb (entry_kind v) 1 ≡ false = ne_eqb (entry_kind v) 1 (λ t. omega (arith, e.kind_is)) in
      let r : eqb (entry_kind v) 2 ≡ false = ne_eqb (entry_kind v) 2 (λ t. omega (arith, e.kind_is)) in
      rw (q, r) z
  entry_here keeps e f =
      let q : eqb (entry_kind v) 1 ≡ false = ne_eqb (entry_kind v) 1 (λ t. omega arith) in
      let r : eqb (entry_kind v) 2 ≡ false = ne_eqb (entry_kind v) 2 (λ t. omega arith) in
      rw (q, r) z

-- ---- all rows

pub length_mark_rows : (d m : List ℕ) (e n : ℕ) → length (mark_rows d m e n) ≡ length m
unfolding mark_rows
length_mark_rows d m e zero = refl
length_mark_rows d m e (suc n) = length_mark_entry d (mark_rows d m e n) n (entry_of d e n) ∙ length_mark_rows d m e n

pub rows_left : (d m : List ℕ) (e n a b : ℕ) → n ≤ a → b < 64 → at (mark_rows d m e n) a b ≡ at m a b
unfolding mark_rows
rows_left d m e zero a b h k = refl
rows_left d m e (suc n) a b h k = entry_other d (mark_rows d m e n) n (entry_of d e n) a b (omega arith) k ∙ rows_left d m e n a b (omega arith) k

module _ (p : Program) (d : List ℕ) (k e : ℕ) (f : Fits p) (dr : Drafted p d k) (ev : e ≤ 32) (m : List ℕ) (l : length m ≡ 4096)
    (z : (a b : ℕ) → at m a b ≡ 0) where
  rows_done : (n : ℕ) → n ≤ size p → (a b : ℕ) → a < n → b < 64 → at (mark_rows d m e n) a b ≡ one? (depends_on p e a b)
  unfolding mark_rows
  rows_done zero s a b h t = absurd (omega arith)
  rows_done (suc n) s a b h t =
      let w = mark_rows d m e n in
      let few : n < 64 = omega (arith, f.few_behaviours) in
      by_cases (dec_lt a n)
      (λ q. entry_other d w n (entry_of d e n) a b (omega arith) t ∙ rows_done n (omega arith) a b q t)
      (λ q. let c : n ≡ a = omega arith in subst (λ y. at (mark_entry d w n (entry_of d e n)) y b ≡ one? (depends_on p e y b)) c
      (entry_here d w n (entry_of d e n) b dr.long (length_mark_rows d m e n ∙ l) few t (rows_left d m e n n b (omega arith) t ∙ z n b)
      (response p e n) (entry_of_law p d k dr e n ev (omega arith)) (response_nested p f.each e n)))

  rows_are : (a b : ℕ) → b < 64 → at (mark_rows d m e (size p)) a b ≡ one? (depends_on p e a b)
  rows_are a b t =
      by_cases (dec_lt a (size p)) (λ q. rows_done (size p) (omega arith) a b q t)
      (λ q. rw (none_past p e a b (omega arith)) (rows_left d m e (size p) a b (omega arith) t ∙ z a b))

-- ---- the matrix

pub length_matrix_of : (p : Program) (e : ℕ) → length (matrix_of p e) ≡ 4096
unfolding matrix_of
length_matrix_of p e = length_up_to 4096 (λ k. one? (depends_on p e (k / 64) (k % 64)))

pub matrix_of_at : (p : Program) (e k : ℕ) → k < 4096 → get_or (matrix_of p e) k 0 ≡ one? (depends_on p e (k / 64) (k % 64))
unfolding matrix_of
matrix_of_at p e k h = get_d_up_to 4096 (λ k. one? (depends_on p e (k / 64) (k % 64))) k 0 h

pub matrix_is : (p : Program) (d : List ℕ) (n e : ℕ) → Fits p → Drafted p d n → e ≤ 32 → matrix_on d e (size p) ≡ matrix_of p e
unfolding matrix_on
matrix_is p d n e f dr ev =
    let w = mark_rows d (zero_bytes 4096) e (size p) in
    let l : length w ≡ 4096 = length_mark_rows d (zero_bytes 4096) e (size p) ∙ length_blank 4096 in
    ext_get_or 0 w (matrix_of p e) (rw length_matrix_of l)
    (λ k h. let b : k < 4096 = omega (arith, l) in
    let q : k / 64 * 64 + k % 64 ≡ k = omega arith in
    let r = rows_are p d n e f dr ev (zero_bytes 4096) (length_blank 4096) (λ x y. blank_at 4096 (x * 64 + y)) (k / 64) (k % 64) (omega arith) in
    rw (matrix_of_at p e k b) (rw q at r))

-- ---- cycles

pub cyclic_is : (p : Program) (d : List ℕ) (n : ℕ) → Fits p → Drafted p d n → cyclic_on d (events p) (size p) ≡ cyclic p
unfolding cyclic_on cyclic cyclic_under closed_on
cyclic_is p d n f dr =
    any_same (events p + 1) (λ e. any_below (size p) (λ i. cell (closed (matrix_on d e (size p)) (size p)) i i)) (cyclic_under p)
    (λ e h. rw (matrix_is p d n e f dr (omega (arith, f.few_events))))
