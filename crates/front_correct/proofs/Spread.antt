-- The cells of a sheet before names are moved, each with its place in its row, as the reader leaves them in the draft;
-- and that the nodes as a cell uses them are those of the cell written out (02, M-110). A row's places tell where rows
-- of a count begin; the rest by induction on the entries, and on the expressions.
use Rattle.lib_base.proofs.Prelude.{ℕ, ◌≤◌, ◌<◌, ◌+◌, ◌-◌, suc, zero, ◌*◌, ◌%◌, ◌/◌, ◌≡◌, refl, ◌∙◌, sym, ap, false}
use Rattle.lib_base.proofs.Prelude.{◌≢◌, by_cases, Option, List, [], ◌∷◌, ◌++◌, map, append_assoc, append-nil}
use Rattle.lib_base.proofs.Prelude.{map-append, flat_map, length, get_or, length-append, length-map, List·getD-append}
use Rattle.lib_base.proofs.Prelude.{get_or-append-add, eqb, ltb, dec_lt, ne_eqb, eqb-true, eq-eqb, ltb-false, eqb-false}
use Rattle.lib_base.proofs.Prelude.{ltb-true, arith}
use Rattle.lib_base.specs.Basics.{pick, All}
use Rattle.lib_base.proofs.Tools.{split, by_test, all_join, all_at_or}
use Rattle.spec_language.specs.Sheet.{Term, literal, variable, param, apply1, apply2, apply3, Clause, clause, Item, formula, state, row, Entry, cells, cell_count, is_row, heads, meant, change_clauses}
use Rattle.spec_language.specs.Sheet.{rename_term, rename_clauses, cells_out, entry_out, entries_out, allowed, viewers_of, fill_term}
use Rattle.spec_language.specs.Order.{up_to}
use Rattle.spec_language.specs.Grammar.{Arity, unary, ternary, binary, TermFits, t_literal, t_variable, t_param, t_apply1, t_apply2, t_apply3, ItemFits, EntryFits}
use Rattle.spec_language.specs.Code.{size_of}
use Rattle.spec_language.proofs.Laws.{length_up_to, get_d_up_to}
use Rattle.spec_language.proofs.RowLaws.{length_entry, head_within}
use Rattle.spec_language.proofs.SheetLaws.{blank}
use Rattle.draft_form.specs.Draft.{nodes, place_of, moved, unfilled}
use Rattle.draft_form.specs.Entry.{node_tag, node_word}

-- ---- the cells

abbrev spread_item : Item → List Item
spread_item (formula x) = formula x ∷ []
spread_item (state s cs) = state s cs ∷ []
spread_item (row c s cs) = up_to c (λ j. state s cs)

abbrev pub spread_entry : Entry → List Entry
spread_entry x = map (λ (y : Item). record { item = y; viewer = x.viewer }) (spread_item x.item)

unfoldable pub spread : List Entry → List Entry
spread = flat_map spread_entry

-- and their places
abbrev pub places_in : Item → List ℕ
places_in (formula x) = 0 ∷ []
places_in (state s cs) = 0 ∷ []
places_in (row c s cs) = up_to c (λ j. c * 16 + j)

unfoldable pub places : List Entry → List ℕ
places = flat_map (λ (x : Entry). places_in x.item)

length_item : (x : Item) → length (spread_item x) ≡ cells x
length_item (formula x) = refl
length_item (state s cs) = refl
length_item (row c s cs) = length_up_to c (λ j. state s cs)

pub length_spread_entry : (x : Entry) → length (spread_entry x) ≡ cells x.item
length_spread_entry x = length-map (spread_item x.item) (λ (y : Item). record { item = y; viewer = x.viewer }) ∙ length_item x.item

pub length_spread : (xs : List Entry) → length (spread xs) ≡ cell_count xs
unfolding spread flat_map cell_count
length_spread [] = refl
length_spread (x ∷ xs) = length-append (spread_entry x) (spread xs) ∙ rw (length_spread_entry x, length_spread xs)

length_in : (x : Item) → length (places_in x) ≡ cells x
length_in (formula x) = refl
length_in (state s cs) = refl
length_in (row c s cs) = length_up_to c (λ j. c * 16 + j)

-- one more entry
flat_snoc : {A B : Type 0} (f : A → List B) (xs : List A) (x : A) → flat_map f (xs ++ (x ∷ [])) ≡ flat_map f xs ++ f x
unfolding flat_map
flat_snoc f [] x = append-nil (f x)
flat_snoc f (y ∷ xs) x = rw (flat_snoc f xs x) (sym (append_assoc (f y) (flat_map f xs) (f x)))

pub spread_snoc : (xs : List Entry) (x : Entry) → spread (xs ++ (x ∷ [])) ≡ spread xs ++ spread_entry x
unfolding spread
spread_snoc xs x = flat_snoc spread_entry xs x

pub places_snoc : (xs : List Entry) (x : Entry) → places (xs ++ (x ∷ [])) ≡ places xs ++ places_in x.item
unfolding places
places_snoc xs x = flat_snoc (λ (x : Entry). places_in x.item) xs x

-- ---- limits

abbrev made : Option ℕ → Item → Entry
made m y = record { item = y; viewer = m }

all_up_to : (P : Entry → Type 0) (m : Option ℕ) (n : ℕ) (f : ℕ → Item) → ((j : ℕ) → P (made m (f j))) → All P (map (made m) (up_to n f))
unfolding up_to
all_up_to P m zero f h = tt
all_up_to P m (suc n) f h = (h zero, all_up_to P m n (λ i. f (suc i)) (λ j. h (suc j)))

entry_fits : (n : ℕ) (m : Option ℕ) (x : Item) → EntryFits n (made m x) → All (EntryFits n) (map (made m) (spread_item x))
entry_fits n m (formula x) h = (h, tt)
entry_fits n m (state s cs) h = (h, tt)
entry_fits n m (row c s cs) h = all_up_to (EntryFits n) m c (λ j. state s cs) (λ j. ((h.0.2, h.0.3), h.1))

pub spread_fits : (n : ℕ) (xs : List Entry) → All (EntryFits n) xs → All (EntryFits n) (spread xs)
unfolding spread flat_map
spread_fits n [] h = tt
spread_fits n (x ∷ xs) h = all_join (EntryFits n) (spread_entry x) (spread xs) (entry_fits n x.viewer x.item h.0) (spread_fits n xs h.1)

-- ---- where rows of a count begin

head_item : (n c m : ℕ) (x : Item) → ItemFits n x → 1 ≤ c → m < cells x → pick (eqb m 0) (is_row c x) false ≡ eqb (get_or (places_in x) m 0) (c * 16)
head_item n c m (formula x) f h b = let z : m ≡ 0 = omega arith in rw z (sym (ne_eqb 0 (c * 16) (λ q. omega arith)))
head_item n c m (state s cs) f h b = let z : m ≡ 0 = omega arith in rw z (sym (ne_eqb 0 (c * 16) (λ q. omega arith)))
head_item n c m (row k s cs) f h b =
    rw (get_d_up_to k (λ j. k * 16 + j) m 0 b)
    (split (eqb m 0)
    (λ e. let z : m ≡ 0 = eqb-true m 0 e in
    rw e (split (eqb k c)
    (λ d. let q : k ≡ c = eqb-true k c d in d ∙ sym (eq-eqb (k * 16 + m) (c * 16) (omega arith)))
    (λ d. let q : k ≢ c = eqb-false k c d in d ∙ sym (ne_eqb (k * 16 + m) (c * 16) (λ y. q (omega arith))))))
    (λ e. let z : m ≢ 0 = eqb-false m 0 e in rw e (sym (ne_eqb (k * 16 + m) (c * 16) (λ y. omega arith)))))

some_cells : (n : ℕ) (x : Item) → ItemFits n x → 1 ≤ cells x
some_cells n (formula x) f = omega arith
some_cells n (state s cs) f = omega arith
some_cells n (row k s cs) f = omega (arith, f.0)

pub head_place : (n : ℕ) (xs : List Entry) (c m : ℕ) → All (EntryFits n) xs → 1 ≤ c → heads xs c m ≡ eqb (get_or (places xs) m 0) (c * 16)
unfolding heads places flat_map
head_place n [] c m f h = sym (ne_eqb 0 (c * 16) (λ q. omega arith))
head_place n (x ∷ xs) c m f h =
    split (ltb m (cells x.item))
    (λ l.
    let b : m < cells x.item = ltb-true m (cells x.item) l in
    rw (l, List·getD-append (places_in x.item) (places xs) 0 m (omega (arith, length_in x.item))) (head_item n c m x.item f.0.0 h b))
    (λ l.
    let b : cells x.item ≤ m = ltb-false m (cells x.item) l in
    let o : 1 ≤ cells x.item = some_cells n x.item f.0.0 in
    let y : length (places_in x.item) + (m - cells x.item) ≡ m = omega (arith, length_in x.item) in
    let g : get_or (places_in x.item ++ places xs) m 0 ≡ get_or (places xs) (m - cells x.item) 0 =
    rw y at (get_or-append-add (places_in x.item) (places xs) (m - cells x.item) 0) in
    rw (l, g, ne_eqb m 0 (λ z. omega arith)) (head_place n xs c (m - cells x.item) f.1 h))

-- a place is 0, or a row's count is in it
place_row : (m : ℕ) (g : ℕ → ℕ) → ((j : ℕ) → 16 ≤ g j) → All (λ a. a ≢ 0 → 16 ≤ a) (up_to m g)
unfolding up_to
place_row zero g h = tt
place_row (suc m) g h = ((λ _. h zero), place_row m (λ j. g (suc j)) (λ j. h (suc j)))

place_item : (n : ℕ) (x : Item) → ItemFits n x → All (λ a. a ≢ 0 → 16 ≤ a) (places_in x)
place_item n (formula x) f = ((λ h. absurd (h refl)), tt)
place_item n (state s cs) f = ((λ h. absurd (h refl)), tt)
place_item n (row c s cs) f = place_row c (λ j. c * 16 + j) (λ j. omega (arith, f.0))

place_all : (n : ℕ) (xs : List Entry) → All (EntryFits n) xs → All (λ a. a ≢ 0 → 16 ≤ a) (places xs)
unfolding places flat_map
place_all n [] f = tt
place_all n (x ∷ xs) f = all_join (λ a. a ≢ 0 → 16 ≤ a) (places_in x.item) (places xs) (place_item n x.item f.0.0) (place_all n xs f.1)

pub place_form : (n : ℕ) (xs : List Entry) → All (EntryFits n) xs → (i : ℕ) → get_or (places xs) i 0 ≢ 0 → 16 ≤ get_or (places xs) i 0
place_form n xs f i = all_at_or (λ a. a ≢ 0 → 16 ≤ a) (places xs) i 0 (place_all n xs f) (λ h. absurd (h refl))

-- ---- names moved

-- what a name means in a cell at place a
abbrev pub mover : List Entry → ℕ → ℕ → ℕ
mover xs a m = meant xs (a / 16) (a % 16) m

abbrev pub move_item : (ℕ → ℕ) → Item → Item
move_item f (formula x) = formula (rename_term f x)
move_item f (state s cs) = state s (rename_clauses f cs)
move_item f (row c s cs) = row c s (rename_clauses f cs)

module _ (f g : ℕ → ℕ) (same : (m : ℕ) → f m ≡ g m) where
  rename_same : (x : Term) → rename_term f x ≡ rename_term g x
  unfolding rename_term
  rename_same (literal w) = refl
  rename_same (variable i) = rw (same i)
  rename_same (param n) = refl
  rename_same (apply1 h a) = rw (rename_same a)
  rename_same (apply2 h a b) = rw (rename_same a, rename_same b)
  rename_same (apply3 h a b c) = rw (rename_same a, rename_same b, rename_same c)

  clauses_same : (cs : List Clause) → rename_clauses f cs ≡ rename_clauses g cs
  unfolding change_clauses
  clauses_same [] = refl
  clauses_same (clause e φ x ∷ cs) = rw (rename_same x, clauses_same cs)

rename_none : (x : Term) → rename_term (λ m. m) x ≡ x
unfolding rename_term
rename_none (literal w) = refl
rename_none (variable i) = refl
rename_none (param n) = refl
rename_none (apply1 h a) = rw (rename_none a)
rename_none (apply2 h a b) = rw (rename_none a, rename_none b)
rename_none (apply3 h a b c) = rw (rename_none a, rename_none b, rename_none c)

clauses_none : (cs : List Clause) → rename_clauses (λ m. m) cs ≡ cs
unfolding change_clauses
clauses_none [] = refl
clauses_none (clause e φ x ∷ cs) = rw (rename_none x, clauses_none cs)

pub rename_size : (f v : ℕ → ℕ) (x : Term) → size_of (fill_term v (rename_term f x)) ≡ size_of (fill_term v x)
unfolding rename_term fill_term size_of
rename_size f v (literal w) = refl
rename_size f v (variable i) = refl
rename_size f v (param n) = refl
rename_size f v (apply1 g a) = rw (rename_size f v a)
rename_size f v (apply2 g a b) = rw (rename_size f v a, rename_size f v b)
rename_size f v (apply3 g a b c) = rw (rename_size f v a, rename_size f v b, rename_size f v c)

-- outside rows a name means what it says
mover_none : (xs : List Entry) (m : ℕ) → mover xs 0 m ≡ m
mover_none xs m = by_test (λ (z : ℕ). z ≡ m) (heads xs 0 m) (λ e. omega arith) (λ e. refl)

-- ---- a cell written out is the cell spread, its names moved

made_at : (m : Option ℕ) (n : ℕ) (f : ℕ → Item) (i : ℕ) → i < n → get_or (map (made m) (up_to n f)) i blank ≡ made m (f i)
unfolding up_to
made_at m zero f i h = absurd (omega arith)
made_at m (suc n) f zero h = refl
made_at m (suc n) f (suc i) h = made_at m n (λ j. f (suc j)) i (omega arith)

entry_at : (xs : List Entry) (n : ℕ) (m : Option ℕ) (x : Item) → ItemFits n x → (i : ℕ) → i < cells x
    → (get_or (map (made m) (cells_out xs x)) i blank).item ≡ move_item (mover xs (get_or (places_in x) i 0)) (get_or (map (made m) (spread_item x)) i blank).item
entry_at xs n m (formula x) f i h =
    let z : i ≡ 0 = omega arith in
    rw z (ap formula (sym (rename_same (mover xs 0) (λ m. m) (mover_none xs) x ∙ rename_none x)))
entry_at xs n m (state s cs) f i h =
    let z : i ≡ 0 = omega arith in
    rw z (ap (state s) (sym (clauses_same (mover xs 0) (λ m. m) (mover_none xs) cs ∙ clauses_none cs)))
entry_at xs n m (row c s cs) f i h =
    let a : (c * 16 + i) / 16 ≡ c = omega (arith, f.1) in
    let b : (c * 16 + i) % 16 ≡ i = omega (arith, f.1) in
    rw (made_at m c (λ j. state s (rename_clauses (meant xs c j) cs)) i h, made_at m c (λ j. state s cs) i h, get_d_up_to c (λ j. c * 16 + j) i 0 h)
    (ap (state s) (clauses_same (meant xs c i) (mover xs (c * 16 + i)) (λ k. rw (a, b)) cs))

pub out_at : (xs : List Entry) (n : ℕ) (ys : List Entry) → All (EntryFits n) ys → (i : ℕ) → i < cell_count ys
    → (get_or (entries_out xs ys) i blank).item ≡ move_item (mover xs (get_or (places ys) i 0)) (get_or (spread ys) i blank).item
unfolding entries_out spread places flat_map cell_count
out_at xs n [] f i h = absurd (omega arith)
out_at xs n (y ∷ ys) f i h =
    let p : length (entry_out xs y) ≡ cells y.item = length_entry xs y in
    let q : length (spread_entry y) ≡ cells y.item = length_spread_entry y in
    let r : length (places_in y.item) ≡ cells y.item = length_in y.item in
    by_cases (dec_lt i (cells y.item))
    (λ b.
    rw (
      List·getD-append (entry_out xs y) (entries_out xs ys) blank i (omega arith),
      List·getD-append (spread_entry y) (spread ys) blank i (omega arith),
      List·getD-append (places_in y.item) (places ys) 0 i (omega arith),
    ) (entry_at xs n y.viewer y.item f.0.0 i b))
    (λ b.
    let k : cells y.item + (i - cells y.item) ≡ i = omega arith in
    let a₁ : get_or (entry_out xs y ++ entries_out xs ys) i blank ≡ get_or (entries_out xs ys) (i - cells y.item) blank =
    rw (p, k) at (get_or-append-add (entry_out xs y) (entries_out xs ys) (i - cells y.item) blank) in
    let a₂ : get_or (spread_entry y ++ spread ys) i blank ≡ get_or (spread ys) (i - cells y.item) blank =
    rw (q, k) at (get_or-append-add (spread_entry y) (spread ys) (i - cells y.item) blank) in
    let a₃ : get_or (places_in y.item ++ places ys) i 0 ≡ get_or (places ys) (i - cells y.item) 0 =
    rw (r, k) at (get_or-append-add (places_in y.item) (places ys) (i - cells y.item) 0) in
    rw (a₁, a₂, a₃) (out_at xs n ys f.1 (i - cells y.item) (omega arith)))

-- who may see a cell does not depend on it
viewers_made : (m : Option ℕ) (n : ℕ) (f g : ℕ → Item) → viewers_of (map (made m) (up_to n f)) ≡ viewers_of (map (made m) (up_to n g))
unfolding up_to
viewers_made m zero f g = refl
viewers_made m (suc n) f g = ap (λ (l : List ℕ). allowed m ∷ l) (viewers_made m n (λ i. f (suc i)) (λ i. g (suc i)))

viewers_item : (xs : List Entry) (m : Option ℕ) (x : Item) → viewers_of (map (made m) (cells_out xs x)) ≡ viewers_of (map (made m) (spread_item x))
viewers_item xs m (formula x) = refl
viewers_item xs m (state s cs) = refl
viewers_item xs m (row c s cs) = viewers_made m c (λ j. state s (rename_clauses (meant xs c j) cs)) (λ j. state s cs)

pub viewers_out : (xs ys : List Entry) → viewers_of (entries_out xs ys) ≡ viewers_of (spread ys)
unfolding entries_out spread flat_map
viewers_out xs [] = refl
viewers_out xs (y ∷ ys) =
    rw (
      map-append (λ (x : Entry). allowed x.viewer) (entry_out xs y) (entries_out xs ys),
      map-append (λ (x : Entry). allowed x.viewer) (spread_entry y) (spread ys),
      viewers_item xs y.viewer y.item,
      viewers_out xs ys,
    )

-- ---- nodes, as a cell at place a uses them

module _ (d : List ℕ) (xs : List Entry) (n : ℕ) (fits : All (EntryFits n) xs) (few : cell_count xs ≤ 64) (there : (m : ℕ) → m < 64 → place_of d m ≡ get_or (places xs) m 0)
    (i : ℕ) (low : i < 64) where
  abbrev a : ℕ
  a = get_or (places xs) i 0

  other_node : (x : ℕ) → node_tag x ≢ 17 → moved d i x ≡ x
  unfolding moved
  other_node x h = rw (ne_eqb (node_tag x) 17 h)

  app_node : (f k : ℕ) → Arity f k → moved d i (77309411328 + f) ≡ 77309411328 + f
  app_node f k unary = other_node (77309411328 + f) (λ e. omega arith)
  app_node f k ternary = other_node (77309411328 + f) (λ e. omega arith)
  app_node f k (binary h b q) = other_node (77309411328 + f) (λ e. omega arith)

  -- a name
  name_outside : a ≡ 0 → (m : ℕ) → m < 256 → moved d i (73014444032 + m) ≡ 73014444032 + mover xs a m
  unfolding moved
  name_outside z m h =
      let p : place_of d i ≡ 0 = there i low ∙ z in
      rw (z, p, mover_none xs m)
      (by_test (λ (y : ℕ). y ≡ 73014444032 + m) (eqb (node_tag (73014444032 + m)) 17)
      (λ _. by_test (λ (y : ℕ). y ≡ 73014444032 + m) (ltb (node_word (73014444032 + m)) 64)
      (λ _. by_test (λ (y : ℕ). y ≡ 73014444032 + m) (eqb (place_of d (node_word (73014444032 + m))) (0 / 16 * 16)) (λ _. omega arith) (λ _. refl))
      (λ _. refl))
      (λ _. refl))

  name_inside : 16 ≤ a → (m : ℕ) → m < 256 → moved d i (73014444032 + m) ≡ 73014444032 + mover xs a m
  unfolding moved
  name_inside z m h =
      let t : node_tag (73014444032 + m) ≡ 17 = omega arith in
      let w : node_word (73014444032 + m) ≡ m = omega arith in
      let p : place_of d i ≡ a = there i low in
      rw (eq-eqb (node_tag (73014444032 + m)) 17 t, w, p)
      (split (ltb m 64)
      (λ l.
      let q : eqb (place_of d m) (a / 16 * 16) ≡ heads xs (a / 16) m =
      ap (λ (y : ℕ). eqb y (a / 16 * 16)) (there m (ltb-true m 64 l)) ∙ sym (head_place n xs (a / 16) m fits (omega arith)) in
      rw (l, q) (split (heads xs (a / 16) m) (λ e. rw e (omega arith)) (λ e. rw e)))
      (λ l.
      let o : 64 ≤ m = ltb-false m 64 l in
      rw l (split (heads xs (a / 16) m) (λ e. absurd (omega (arith, head_within xs (a / 16) m e))) (λ e. rw e))))

  name_node : (m : ℕ) → m < 256 → moved d i (73014444032 + m) ≡ 73014444032 + mover xs a m
  name_node m h =
      split (eqb a 0) (λ e. name_outside (eqb-true a 0 e) m h) (λ e. name_inside (place_form n xs fits i (eqb-false a 0 e)) m h)

  abbrev raw : Term → List ℕ
  raw x = nodes (fill_term unfilled x)

  pub term_moved : {k : ℕ} {x : Term} → TermFits k x → map (moved d i) (nodes (fill_term unfilled x)) ≡ nodes (fill_term unfilled (rename_term (mover xs a) x))
  unfolding fill_term nodes rename_term
  term_moved (t_literal {w = w} h) = rw (other_node (68719476736 + w) (λ e. omega arith))
  term_moved (t_variable {i = m} h) = rw (name_node m h)
  term_moved (t_param {n = m} h) = rw (other_node (68719476736 + (12884901888 + m)) (λ e. omega arith))
  term_moved (t_apply1 {f = f} {a = x} r p) = rw (map-append (moved d i) (raw x) ((77309411328 + f) ∷ []), term_moved p, app_node f 1 r)
  term_moved (t_apply2 {f = f} {a = x} {b = y} r p q) =
      rw (
        map-append (moved d i) (raw x) (raw y ++ ((77309411328 + f) ∷ [])),
        map-append (moved d i) (raw y) ((77309411328 + f) ∷ []),
        term_moved p,
        term_moved q,
        app_node f 2 r,
      )
  term_moved (t_apply3 {f = f} {a = x} {b = y} {c = z} r p q o) =
      rw (
        map-append (moved d i) (raw x) (raw y ++ (raw z ++ ((77309411328 + f) ∷ []))),
        map-append (moved d i) (raw y) (raw z ++ ((77309411328 + f) ∷ [])),
        map-append (moved d i) (raw z) ((77309411328 + f) ∷ []),
        term_moved p,
        term_moved q,
        term_moved o,
        app_node f 3 r,
      )
