-- The sets that the code gathers on a draft are those of its program: the names of an expression are those of its
-- nodes, by induction, and an entry holds what the behaviour does.
use Rattle.lib_base.proofs.Prelude.{ℕ, ◌≤◌, ◌<◌, ◌+◌, suc, zero, ◌^◌, ◌≡◌, refl, ◌∙◌, sym, ap, false, Bool, ◌||◌}
use Rattle.lib_base.proofs.Prelude.{true≢false, ◌&&◌, or-false, or_assoc, List, [], ◌∷◌, ◌++◌, length, get_or, take, drop}
use Rattle.lib_base.proofs.Prelude.{length-drop, get_or-drop, take-suc, eqb, leb, ne_eqb, arith}
use Rattle.lib_base.proofs.Tools.{all_at_or}
use Rattle.spec_language.specs.Syntax.{Expr, Behaviour, passive, active, Program}
use Rattle.spec_language.specs.Dependence.{Response, follows, takes, defers, keeps, size, events, no_event, respond, response, behaviour_at, mentions, needs, depends_on, written, writes}
use Rattle.spec_language.specs.Grammar.{Arity, unary, ternary, binary}
use Rattle.spec_language.specs.Fits.{Nested, n_con, n_name, n_app1, n_app2, n_app3, BehaviourFits, Fits}
use Rattle.spec_language.proofs.Laws.{ResponseNested, response_nested}
use Rattle.draft_form.specs.Draft.{draft_length, nodes, entry_of, used_by, Drafted}
use Rattle.draft_form.specs.Entry.{entry_kind, entry_start, entry_count, node_tag, node_word}
use Rattle.draft_form.proofs.DraftLaws.{Holds, Entry, entry_of_law, length_used}
use Rattle.check_graph.specs.Matrix.{cell, close_by, closed}
use Rattle.check_graph.proofs.Closure.{length_close_by, pass_is}
use Rattle.check_graph.specs.Any.{any_below}
use Rattle.check_faults.specs.Faults.{matrix_of}
use Rattle.check_graph.proofs.Any.{any_same}
use Rattle.check_faults.proofs.MatrixAgrees.{length_matrix_of}
use Rattle.check_faults.proofs.CycleDecides.{cell_is}
use Rattle.check_reads.specs.Sets.{is_name, named_among, names_on, writes_on, handlers_name, passive_on, closed_by, named_on}
use Rattle.check_reads.specs.Named.{named_directly, through_passives, named_by}
use Rattle.check_reads.specs.InResponse.{in_response}
use Rattle.check_reads.proofs.Gathering.{any_more}
use Rattle.check_reads.proofs.Decides.{none_handled}

-- ---- a list of nodes

unfoldable among : ℕ → List ℕ → Bool
among j [] = false
among j (x ∷ l) = is_name j x || among j l

among_join : (j : ℕ) (l m : List ℕ) → among j (l ++ m) ≡ among j l || among j m
unfolding among
among_join j [] m = refl
among_join j (x ∷ l) m = rw (among_join j l m, or_assoc (is_name j x) (among j l) (among j m))

among_nodes : (d : List ℕ) (j start k : ℕ) → start + k ≤ length d → named_among d j start k ≡ among j (take k (drop start d))
unfolding named_among among any_below
among_nodes d j start zero h = refl
among_nodes d j start (suc k) h =
    let r : k < length (drop start d) = rw length-drop (omega arith) in
    let e : among j (take (suc k) (drop start d)) ≡ among j (take k (drop start d)) || is_name j (get_or d (start + k) 0) =
    rw (take-suc (drop start d) k 0 r, among_join j (take k (drop start d)) (get_or (drop start d) k 0 ∷ []), get_or-drop start d k 0, among, or-false) in
    any_more k (λ i. is_name j (get_or d (start + i) 0))
    ∙ ap (λ (x : Bool). x || is_name j (get_or d (start + k) 0)) (among_nodes d j start k (omega arith))
    ∙ sym e

-- ---- the nodes of an expression

no_name : (j x : ℕ) → (node_tag x ≡ 17 → ⊥) → is_name j x ≡ false
unfolding is_name
no_name j x h = rw (ne_eqb (node_tag x) 17 h)

con_names : (j w : ℕ) → w < 2 ^ 32 → among j ((68719476736 + w) ∷ []) ≡ false
unfolding among
con_names j w h = rw (no_name j (68719476736 + w) (λ e. omega arith), among)

app_names : (j f n : ℕ) → Arity f n → among j ((77309411328 + f) ∷ []) ≡ false
unfolding among
app_names j f n unary = rw (no_name j (77309411328 + f) (λ e. omega arith), among)
app_names j f n ternary = rw (no_name j (77309411328 + f) (λ e. omega arith), among)
app_names j f n (binary h k q) = rw (no_name j (77309411328 + f) (λ e. omega arith), among)

name_names : (j i : ℕ) → i < 256 → among j ((73014444032 + i) ∷ []) ≡ eqb i j
unfolding among is_name
name_names j i h =
    let t : node_tag (73014444032 + i) ≡ 17 = omega arith in
    let w : node_word (73014444032 + i) ≡ i = omega arith in
    rw (t, w, or-false)

expr_names : (j : ℕ) {k : ℕ} {x : Expr} → Nested k x → among j (nodes x) ≡ mentions j x
unfolding nodes mentions
expr_names j (n_con {w = w} h) = con_names j w h
expr_names j (n_name {i = i} h) = name_names j i h
expr_names j (n_app1 {f = f} {a = x} h hx) = rw (among_join j (nodes x) ((77309411328 + f) ∷ []), app_names j f 1 h, or-false) (expr_names j hx)
expr_names j (n_app2 {f = f} {a = x} {b = y} h hx hy) =
    rw (
      among_join j (nodes x) (nodes y ++ ((77309411328 + f) ∷ [])),
      among_join j (nodes y) ((77309411328 + f) ∷ []),
      app_names j f 2 h,
      or-false,
      expr_names j hx,
      expr_names j hy,
    )
expr_names j (n_app3 {f = f} {a = x} {b = y} {c = z} h hx hy hz) =
    rw (
      among_join j (nodes x) (nodes y ++ (nodes z ++ ((77309411328 + f) ∷ []))),
      among_join j (nodes y) (nodes z ++ ((77309411328 + f) ∷ [])),
      among_join j (nodes z) ((77309411328 + f) ∷ []),
      app_names j f 3 h,
      or-false,
      expr_names j hx,
      expr_names j hy,
      expr_names j hz,
    )

-- ---- an entry

module _ (d : List ℕ) (v : ℕ) (dl : length d ≡ draft_length) where
  held : (j kind : ℕ) (x : Expr) → Holds d kind v x → Nested 16 x → named_among d j (entry_start v) (entry_count v) ≡ mentions j x
  held j kind x e f =
      let c : take (entry_count v) (drop (entry_start v) d) ≡ nodes x = rw e.count_is e.there in
      among_nodes d j (entry_start v) (entry_count v) (omega (arith, e.inside)) ∙ rw c (expr_names j f)

  entry_names : (j : ℕ) (r : Response) → Entry d v r → ResponseNested r → named_among d j (entry_start v) (entry_count v) ≡ in_response j r
  unfolding named_among any_below
  entry_names j (follows x) e f = held j 1 x e f
  entry_names j (takes x) e f = held j 2 x e f
  entry_names j (defers x) e f = held j 3 x e f
  entry_names j keeps e f = rw e

  entry_writes : (r : Response) → Entry d v r → leb 2 (entry_kind v) ≡ written r
  entry_writes (follows x) e = rw e.kind_is
  entry_writes (takes x) e = rw e.kind_is
  entry_writes (defers x) e = rw e.kind_is
  entry_writes keeps e = rw e

-- ---- chains: the matrix in bytes and the rows agree after each pass

pub cells_closed : (m : List ℕ) (n : ℕ) → length m ≡ 4096 → n ≤ 64 → (k i j : ℕ) → i < n → j < n → k ≤ n → cell (close_by m n k) i j ≡ closed_by k (λ x y. cell m x y) i j
unfolding close_by closed_by
cells_closed m n l few zero i j a b h = refl
cells_closed m n l few (suc k) i j a b h =
    pass_is (close_by m n k) k n (length_close_by m n k ∙ l) few (omega arith) i j a b
    ∙ rw (
      cells_closed m n l few k i j a b (omega arith),
      cells_closed m n l few k i k a (omega arith) (omega arith),
      cells_closed m n l few k k j (omega arith) b (omega arith),
    )

pub closed_same : (n : ℕ) (dep dep' : ℕ → ℕ → Bool) → ((x y : ℕ) → x < n → y < n → dep x y ≡ dep' x y) → (k i j : ℕ) → i < n → j < n → k ≤ n → closed_by k dep i j ≡ closed_by k dep' i j
unfolding closed_by
closed_same n dep dep' h zero i j a b c = h i j a b
closed_same n dep dep' h (suc k) i j a b c =
    rw (
      closed_same n dep dep' h k i j a b (omega arith),
      closed_same n dep dep' h k i k a (omega arith) (omega arith),
      closed_same n dep dep' h k k j (omega arith) b (omega arith),
    )

-- ---- the draft of a program

module _ (p : Program) (d : List ℕ) (n : ℕ) (f : Fits p) (dr : Drafted p d n) where
  long : (i : ℕ) → length (used_by d i) ≡ draft_length
  long i = length_used d i ∙ dr.long

  pub names_are : (e i j : ℕ) → e ≤ 32 → i < size p → names_on d e i j ≡ in_response j (response p e i)
  unfolding names_on
  names_are e i j h b = entry_names (used_by d i) (entry_of d e i) (long i) j (response p e i) (entry_of_law p d n dr e i h b) (response_nested p f.each e i)

  pub writes_are : (e i : ℕ) → e ≤ 32 → i < size p → writes_on d e i ≡ writes p e i
  unfolding writes_on
  writes_are e i h b = entry_writes (used_by d i) (entry_of d e i) (long i) (response p e i) (entry_of_law p d n dr e i h b)

  handlers_are : (e j : ℕ) → e ≤ 32 → handlers_name d e (size p) j ≡ named_directly p e j
  unfolding handlers_name named_directly
  handlers_are e j h =
      any_same (size p) (λ i. writes_on d e i && names_on d e i j) (λ i. writes p e i && in_response j (response p e i))
      (λ i b. rw (writes_are e i h b, names_are e i j h b))

  -- ---- through passives: under no event an active has no handler

  plain : (b : Behaviour) → BehaviourFits (events p) b → written (respond (no_event p) b) ≡ false
  plain (passive x) h = refl
  plain (active z hs) h = ap written (none_handled (events p) hs h.1)

  passive_entry : (v i j : ℕ) (r : Response) → Entry (used_by d i) v r → ResponseNested r → written r ≡ false
      → eqb (entry_kind v) 1 && named_among (used_by d i) j (entry_start v) (entry_count v) ≡ needs i j r
  passive_entry v i j (follows x) e g w = rw e.kind_is (entry_names (used_by d i) v (long i) j (follows x) e g)
  passive_entry v i j (takes x) e g w = absurd (true≢false w)
  passive_entry v i j (defers x) e g w = absurd (true≢false w)
  passive_entry v i j keeps e g w = rw e

  passives_are : (i j : ℕ) → i < size p → passive_on d (events p) i j ≡ depends_on p (no_event p) i j
  unfolding passive_on names_on
  passives_are i j b =
      passive_entry (entry_of d (events p) i) i j (response p (events p) i) (entry_of_law p d n dr (events p) i f.few_events b) (response_nested p f.each (events p) i)
      (plain (behaviour_at p i) (all_at_or (BehaviourFits (events p)) p.behaviours i (active 0 []) f.each (omega arith, tt)))

  pub chains_are : (i j : ℕ) → i < size p → j < size p → closed_by (size p) (passive_on d (events p)) i j ≡ through_passives p i j
  unfolding through_passives closed
  chains_are i j a b =
      closed_same (size p) (passive_on d (events p)) (λ x y. cell (matrix_of p (no_event p)) x y)
      (λ x y h k. passives_are x y h ∙ sym (cell_is p (no_event p) x y (omega (arith, f.few_behaviours)) (omega (arith, f.few_behaviours)))) (size p) i j a b (omega arith)
      ∙ sym (cells_closed (matrix_of p (no_event p)) (size p) (length_matrix_of p (no_event p)) f.few_behaviours (size p) i j a b (omega arith))

  pub named_are : (e j : ℕ) → e ≤ 32 → j < size p → named_on d (events p) (size p) e j ≡ named_by p e j
  unfolding named_on named_by
  named_are e j h c =
      rw (handlers_are e j h)
      (ap (λ (x : Bool). named_directly p e j || x)
      (any_same (size p) (λ i. handlers_name d e (size p) i && closed_by (size p) (passive_on d (events p)) i j) (λ i. named_directly p e i && through_passives p i j)
      (λ i b. rw (handlers_are e i h, chains_are i j b c))))
