-- The rows of the pooled sheet, written out, are those of the first and then those of the second, moved: a name of the
-- first means what it meant there, since the first's numbers are unchanged, and a name of the second, moved up, means
-- what it meant, moved up. By induction on entries and expressions.
use Rattle.lib_base.proofs.Prelude.{ℕ, ◌≤◌, ◌<◌, ◌+◌, ◌-◌, suc, zero, ◌≡◌, refl, ◌∙◌, sym, ap, Option, List, [], ◌∷◌}
use Rattle.lib_base.proofs.Prelude.{◌++◌, map, append_assoc, map-append, flat_map, eqb, ltb, ne_eqb, le-ltb, ltb-false}
use Rattle.lib_base.proofs.Prelude.{arith}
use Rattle.lib_base.specs.Basics.{All}
use Rattle.lib_base.proofs.Tools.{by_test, split, all_split}
use Rattle.spec_language.specs.Order.{up_to}
use Rattle.spec_language.proofs.Laws.{up_to_same}
use Rattle.spec_language.specs.Sheet.{Term, literal, variable, param, apply1, apply2, apply3, Clause, clause, Item, formula, state, row, Entry, cells, cell_count, is_row, heads, meant, rename_term, rename_clauses, cells_out, entry_out, entries_out, change_clauses, change_item, change_entry, change_entries}
use Rattle.spec_language.specs.Sheet.{fill_term, fill_clauses, fill_item, fill_entries}
use Rattle.spec_language.specs.Grammar.{ItemFits, EntryFits}
use Rattle.spec_language.specs.Accepted.{NamesIn, HandlerNamesIn, BehaviourNamesIn}
use Rattle.link_pooled.specs.Pooled.{move_entries, move_term}

-- ---- the first cells of rows

heads_first : (k l : List Entry) (c m : ℕ) → m < cell_count k → heads (k ++ l) c m ≡ heads k c m
unfolding heads cell_count
heads_first [] l c m h = absurd (omega arith)
heads_first (x ∷ k) l c m h =
    split (eqb m 0) (λ t. rw t)
    (λ t. split (ltb m (cells x.item)) (λ u. rw (t, u)) (λ u. rw (t, u) (heads_first k l c (m - cells x.item) (omega (arith, ltb-false m (cells x.item) u)))))

cells_some : (n : ℕ) (x : Item) → ItemFits n x → 1 ≤ cells x
cells_some n (formula x) h = omega arith
cells_some n (state s cs) h = omega arith
cells_some n (row c s cs) h = omega (arith, h.0)

heads_past : (n : ℕ) (k l : List Entry) (c m : ℕ) → All (EntryFits n) k → heads (k ++ l) c (cell_count k + m) ≡ heads l c m
unfolding heads cell_count
heads_past n [] l c m h = ap (heads l c) (omega arith)
heads_past n (x ∷ k) l c m h =
    let p = cells_some n x.item h.0.0 in
    let z : cells x.item + cell_count k + m - cells x.item ≡ cell_count k + m = omega arith in
    rw (ne_eqb (cells x.item + cell_count k + m) 0 (λ e. omega arith), le-ltb (cells x.item + cell_count k + m) (cells x.item) (omega arith), z) (heads_past n k l c m h.1)

module _ (n : ℕ) where
  cells_moved : (x : Item) → cells (change_item (move_term n) x) ≡ cells x
  cells_moved (formula x) = refl
  cells_moved (state s cs) = refl
  cells_moved (row c s cs) = refl

  row_moved : (c : ℕ) (x : Item) → is_row c (change_item (move_term n) x) ≡ is_row c x
  row_moved c (formula x) = refl
  row_moved c (state s cs) = refl
  row_moved c (row k s cs) = refl

  heads_moved : (l : List Entry) (c m : ℕ) → heads (move_entries n l) c m ≡ heads l c m
  unfolding heads change_entries
  heads_moved [] c m = refl
  heads_moved (x ∷ l) c m = rw (row_moved c x.item, cells_moved x.item, heads_moved l c (m - cells x.item))

-- ---- names, written anew

rename_same : (v : ℕ → ℕ) (n : ℕ) (f g : ℕ → ℕ) → ((m : ℕ) → m < n → f m ≡ g m) → (x : Term) → NamesIn n (fill_term v x) → rename_term f x ≡ rename_term g x
unfolding rename_term fill_term
rename_same v n f g e (literal w) h = refl
rename_same v n f g e (variable i) h = ap variable (e i h)
rename_same v n f g e (param k) h = refl
rename_same v n f g e (apply1 q a) h = ap (apply1 q) (rename_same v n f g e a h)
rename_same v n f g e (apply2 q a b) h = rw (rename_same v n f g e a h.0, rename_same v n f g e b h.1)
rename_same v n f g e (apply3 q a b c) h = rw (rename_same v n f g e a h.0, rename_same v n f g e b h.1, rename_same v n f g e c h.2)

clauses_same : (v : ℕ → ℕ) (n : ℕ) (f g : ℕ → ℕ) → ((m : ℕ) → m < n → f m ≡ g m) → (cs : List Clause) → All (HandlerNamesIn n) (fill_clauses v cs) → rename_clauses f cs ≡ rename_clauses g cs
unfolding change_clauses fill_clauses
clauses_same v n f g e [] h = refl
clauses_same v n f g e (clause d φ x ∷ cs) h = rw (rename_same v n f g e x h.0, clauses_same v n f g e cs h.1)

-- one after another
module _ (f g p q : ℕ → ℕ) (e : (m : ℕ) → f (g m) ≡ p (q m)) where
  rename_twice : (x : Term) → rename_term f (rename_term g x) ≡ rename_term p (rename_term q x)
  unfolding rename_term
  rename_twice (literal w) = refl
  rename_twice (variable i) = ap variable (e i)
  rename_twice (param k) = refl
  rename_twice (apply1 r a) = ap (apply1 r) (rename_twice a)
  rename_twice (apply2 r a b) = rw (rename_twice a, rename_twice b)
  rename_twice (apply3 r a b c) = rw (rename_twice a, rename_twice b, rename_twice c)

  clauses_twice : (cs : List Clause) → rename_clauses f (rename_clauses g cs) ≡ rename_clauses p (rename_clauses q cs)
  unfolding change_clauses
  clauses_twice [] = refl
  clauses_twice (clause d φ x ∷ cs) = rw (rename_twice x, clauses_twice cs)

-- what is written anew with no smaller numbers named no larger ones
module _ (v : ℕ → ℕ) (n : ℕ) (f : ℕ → ℕ) (e : (m : ℕ) → m ≤ f m) where
  names_back : (x : Term) → NamesIn n (fill_term v (rename_term f x)) → NamesIn n (fill_term v x)
  unfolding rename_term fill_term
  names_back (literal w) h = tt
  names_back (variable i) h = omega (arith, e i)
  names_back (param k) h = tt
  names_back (apply1 q a) h = names_back a h
  names_back (apply2 q a b) h = (names_back a h.0, names_back b h.1)
  names_back (apply3 q a b c) h = (names_back a h.0, names_back b h.1, names_back c h.2)

  clauses_back : (cs : List Clause) → All (HandlerNamesIn n) (fill_clauses v (rename_clauses f cs)) → All (HandlerNamesIn n) (fill_clauses v cs)
  unfolding change_clauses fill_clauses
  clauses_back [] h = tt
  clauses_back (clause d φ x ∷ cs) h = (names_back x h.0, clauses_back cs h.1)

meant_more : (xs : List Entry) (c j m : ℕ) → m ≤ meant xs c j m
meant_more xs c j m = by_test (λ (z : ℕ). m ≤ z) (heads xs c m) (λ t. omega arith) (λ t. omega arith)

-- ---- names known in what is written out are known as sent

pub fill_append : (v : ℕ → ℕ) (k l : List Entry) → fill_entries v (k ++ l) ≡ fill_entries v k ++ fill_entries v l
unfolding fill_entries
fill_append v [] l = refl
fill_append v (b ∷ k) l = rw (fill_append v k l)

module _ (v : ℕ → ℕ) (n : ℕ) where
  item_back : (e : ℕ) (xs : List Entry) (y : Entry) → ItemFits e y.item → All (BehaviourNamesIn n) (fill_entries v (entry_out xs y)) → BehaviourNamesIn n (fill_item v y.item)
  unfolding fill_entries up_to
  item_back e xs y f h = made y.item f h
    where
      made : (x : Item) → ItemFits e x → All (BehaviourNamesIn n) (fill_entries v (map (λ (z : Item). record { item = z; viewer = y.viewer }) (cells_out xs x))) → BehaviourNamesIn n (fill_item v x)
      made (formula x) f h = h.0
      made (state s cs) f h = h.0
      made (row zero s cs) f h = absurd (omega (arith, f.0))
      made (row (suc c) s cs) f h = clauses_back v n (meant xs (suc c) 0) (meant_more xs (suc c) 0) cs h.0

  pub known_back : (e : ℕ) (xs ys : List Entry) → All (EntryFits e) ys → All (BehaviourNamesIn n) (fill_entries v (entries_out xs ys)) → All (BehaviourNamesIn n) (fill_entries v ys)
  unfolding entries_out flat_map fill_entries
  known_back e xs [] f h = tt
  known_back e xs (y ∷ ys) f h =
      let r = all_split (BehaviourNamesIn n) (fill_entries v (entry_out xs y)) (fill_entries v (entries_out xs ys)) (rw (fill_append v (entry_out xs y) (entries_out xs ys)) at h) in
      (item_back e xs y f.0.0 r.0, known_back e xs ys f.1 r.1)

-- ---- the first's entries mean what they did

out_append : (xs k l : List Entry) → entries_out xs (k ++ l) ≡ entries_out xs k ++ entries_out xs l
unfolding entries_out flat_map
out_append xs [] l = refl
out_append xs (x ∷ k) l = rw (out_append xs k l) (sym (append_assoc (entry_out xs x) (entries_out xs k) (entries_out xs l)))

module _ (v : ℕ → ℕ) (k l : List Entry) where
  meant_first : (c j m : ℕ) → m < cell_count k → meant (k ++ l) c j m ≡ meant k c j m
  meant_first c j m h = rw (heads_first k l c m h)

  cells_first : (x : Item) → BehaviourNamesIn (cell_count k) (fill_item v x) → cells_out (k ++ l) x ≡ cells_out k x
  cells_first (formula x) h = refl
  cells_first (state s cs) h = refl
  cells_first (row c s cs) h =
      up_to_same c (λ j. state s (rename_clauses (meant (k ++ l) c j) cs)) (λ j. state s (rename_clauses (meant k c j) cs))
      (λ j b. ap (state s) (clauses_same v (cell_count k) (meant (k ++ l) c j) (meant k c j) (meant_first c j) cs h))

  out_first : (ys : List Entry) → All (BehaviourNamesIn (cell_count k)) (fill_entries v ys) → entries_out (k ++ l) ys ≡ entries_out k ys
  unfolding entries_out flat_map fill_entries
  out_first [] h = refl
  out_first (y ∷ ys) h = rw (cells_first y.item h.0, out_first ys h.1)

-- ---- the second's, moved, mean what they did, moved

moved_append : (n : ℕ) (k l : List Entry) → move_entries n (k ++ l) ≡ move_entries n k ++ move_entries n l
unfolding change_entries
moved_append n k l = map-append (change_entry (move_term n)) k l

module _ (e : ℕ) (k l : List Entry) (fits : All (EntryFits e) k) where
  abbrev all : List Entry
  all = k ++ move_entries (cell_count k) l

  meant_second : (c j m : ℕ) → meant all c j (cell_count k + m) ≡ cell_count k + meant l c j m
  meant_second c j m =
      rw (heads_past e k (move_entries (cell_count k) l) c m fits, heads_moved (cell_count k) l c m)
      (split (heads l c m) (λ t. rw t (omega arith)) (λ t. rw t))

  entry_second : (x : Item) (m : Option ℕ) → map (λ (y : Item). record { item = y; viewer = m }) (cells_out all (change_item (move_term (cell_count k)) x))
      ≡ move_entries (cell_count k) (map (λ (y : Item). record { item = y; viewer = m }) (cells_out l x))
  unfolding change_entries up_to
  entry_second (formula x) m = refl
  entry_second (state s cs) m = refl
  entry_second (row c s cs) m = each c (λ j. state s (rename_clauses (meant all c j) (change_clauses (move_term (cell_count k)) cs))) (λ j. state s (rename_clauses (meant l c j) cs))
      (λ j. ap (state s) (clauses_twice (meant all c j) (λ i. cell_count k + i) (λ i. cell_count k + i) (meant l c j) (meant_second c j) cs))
    where
      each : (n : ℕ) (f g : ℕ → Item) → ((j : ℕ) → f j ≡ change_item (move_term (cell_count k)) (g j))
          → map (λ (y : Item). record { item = y; viewer = m }) (up_to n f) ≡ map (change_entry (move_term (cell_count k))) (map (λ (y : Item). record { item = y; viewer = m }) (up_to n g))
      each zero f g h = refl
      each (suc n) f g h = λ i. record { item = h zero i; viewer = m } ∷ each n (λ j. f (suc j)) (λ j. g (suc j)) (λ j. h (suc j)) i

  out_second : (ys : List Entry) → entries_out all (move_entries (cell_count k) ys) ≡ move_entries (cell_count k) (entries_out l ys)
  unfolding entries_out flat_map change_entries
  out_second [] = refl
  out_second (y ∷ ys) =
      rw (entry_second y.item y.viewer, out_second ys)
      (sym (moved_append (cell_count k) (entry_out l y) (entries_out l ys)))

-- ---- both

pub rows_pooled : (v : ℕ → ℕ) (e : ℕ) (k l : List Entry) → All (EntryFits e) k → All (BehaviourNamesIn (cell_count k)) (fill_entries v (entries_out k k))
    → entries_out (k ++ move_entries (cell_count k) l) (k ++ move_entries (cell_count k) l) ≡ entries_out k k ++ move_entries (cell_count k) (entries_out l l)
rows_pooled v e k l f h =
    out_append (k ++ move_entries (cell_count k) l) k (move_entries (cell_count k) l)
    ∙ rw (out_first v k (move_entries (cell_count k) l) k (known_back v (cell_count k) e k k f h), out_second e k l f l)
