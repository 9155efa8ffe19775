-- Laws of a sheet whose rows are written out: its number of behaviours, its limits, the parameters that it uses, and
-- that writing out what has no row changes nothing. Each by induction on the entries, with all entries kept apart.
use Rattle.lib_base.proofs.Prelude.{ℕ, ◌≤◌, ◌<◌, ◌+◌, ◌-◌, suc, zero, max, ◌≡◌, refl, ◌∙◌, ap, true, Bool, ◌||◌}
use Rattle.lib_base.proofs.Prelude.{false≢true, Option, List, [], ◌∷◌, ◌++◌, map, map-append, flat_map, length}
use Rattle.lib_base.proofs.Prelude.{length-append, length-map, eqb, ltb, eqb-true, lt-ltb, ltb-false, ltb-true, arith}
use Rattle.lib_base.specs.Basics.{pick, All}
use Rattle.lib_base.proofs.Tools.{by_test, split, all_join}
use Rattle.spec_language.specs.Order.{up_to}
use Rattle.spec_language.proofs.Laws.{length_up_to}
use Rattle.spec_language.specs.Sheet.{Term, literal, variable, param, apply1, apply2, apply3, Clause, clause, Item, formula, state, row, Entry, Sheet, cells, cell_count, is_row, heads, meant, change_clauses, change_item, change_entry, change_entries, as_sent, fill_term}
use Rattle.spec_language.specs.Sheet.{rename_term, rename_clauses, cells_out, entry_out, entries_out, rows_out, fill_cells, fill, write_term, as_written_out}
use Rattle.spec_language.specs.Sheet.{params_of, params_of_clauses, params_of_item, params_of_entries, uses}
use Rattle.spec_language.specs.Grammar.{TermFits, t_literal, t_variable, t_param, t_apply1, t_apply2, t_apply3, NoClauseFor, ClausesFit, ItemFits, ByteFits, EntryFits, SheetFits, encode}

-- ---- how many behaviours

length_cells : (xs : List Entry) (x : Item) → length (cells_out xs x) ≡ cells x
length_cells xs (formula x) = refl
length_cells xs (state s cs) = refl
length_cells xs (row c s cs) = length_up_to c (λ j. state s (rename_clauses (meant xs c j) cs))

pub length_entry : (xs : List Entry) (x : Entry) → length (entry_out xs x) ≡ cells x.item
length_entry xs x = length-map (cells_out xs x.item) (λ (y : Item). record { item = y; viewer = x.viewer }) ∙ length_cells xs x.item

pub length_out : (xs ys : List Entry) → length (entries_out xs ys) ≡ cell_count ys
unfolding entries_out flat_map cell_count
length_out xs [] = refl
length_out xs (y ∷ ys) = length-append (entry_out xs y) (entries_out xs ys) ∙ rw (length_entry xs y, length_out xs ys)

pub count_append : (xs ys : List Entry) → cell_count (xs ++ ys) ≡ cell_count xs + cell_count ys
unfolding cell_count
count_append [] ys = omega arith
count_append (x ∷ xs) ys = omega (arith, count_append xs ys)

-- ---- the first cell of a row: the whole row is counted

is_row_cells : (c : ℕ) (x : Item) → is_row c x ≡ true → cells x ≡ c
is_row_cells c (formula x) h = absurd (false≢true h)
is_row_cells c (state s cs) h = absurd (false≢true h)
is_row_cells c (row k s cs) h = eqb-true k c h

pub head_within : (xs : List Entry) (c m : ℕ) → heads xs c m ≡ true → m + c ≤ cell_count xs
unfolding heads cell_count
head_within [] c m h = absurd (false≢true h)
head_within (x ∷ xs) c m h =
    split (eqb m 0)
    (λ t. let z : m ≡ 0 = eqb-true m 0 t in let k : is_row c x.item ≡ true = rw t at h in omega (arith, is_row_cells c x.item k))
    (λ t. split (ltb m (cells x.item))
    (λ l. absurd (false≢true (rw (t, l) at h)))
    (λ l. let k : heads xs c (m - cells x.item) ≡ true = rw (t, l) at h in
    omega (arith, head_within xs c (m - cells x.item) k, ltb-false m (cells x.item) l)))

-- a name, moved, is within the limit on names
pub meant_small : (xs : List Entry) (c j m : ℕ) → cell_count xs ≤ 64 → j < c → m < 256 → meant xs c j m < 256
meant_small xs c j m few b h = by_test (λ (z : ℕ). z < 256) (heads xs c m) (λ t. omega (arith, head_within xs c m t)) (λ t. h)

-- ---- names written otherwise: limits, and parameters used

module _ (f : ℕ → ℕ) (small : (m : ℕ) → m < 256 → f m < 256) where
  rename_fits : {k : ℕ} {x : Term} → TermFits k x → TermFits k (rename_term f x)
  unfolding rename_term
  rename_fits (t_literal h) = t_literal h
  rename_fits (t_variable {i = i} h) = t_variable (small i h)
  rename_fits (t_param h) = t_param h
  rename_fits (t_apply1 r a) = t_apply1 r (rename_fits a)
  rename_fits (t_apply2 r a b) = t_apply2 r (rename_fits a) (rename_fits b)
  rename_fits (t_apply3 r a b c) = t_apply3 r (rename_fits a) (rename_fits b) (rename_fits c)

  rename_none : (e : ℕ) (cs : List Clause) → NoClauseFor e cs → NoClauseFor e (rename_clauses f cs)
  unfolding change_clauses
  rename_none e [] h = tt
  rename_none e (clause g φ x ∷ cs) h = (h.0, rename_none e cs h.1)

  pub rename_clauses_fit : (n : ℕ) (cs : List Clause) → ClausesFit n cs → ClausesFit n (rename_clauses f cs)
  unfolding change_clauses
  rename_clauses_fit n [] h = tt
  rename_clauses_fit n (clause e φ x ∷ cs) h = (h.0, rename_fits h.1, rename_none e cs h.2, rename_clauses_fit n cs h.3)

module _ (f : ℕ → ℕ) where
  pub rename_params : (x : Term) → params_of (rename_term f x) ≡ params_of x
  unfolding rename_term params_of
  rename_params (literal w) = refl
  rename_params (variable i) = refl
  rename_params (param n) = refl
  rename_params (apply1 g a) = rename_params a
  rename_params (apply2 g a b) = rw (rename_params a, rename_params b)
  rename_params (apply3 g a b c) = rw (rename_params a, rename_params b, rename_params c)

  pub rename_clauses_params : (cs : List Clause) → params_of_clauses (rename_clauses f cs) ≡ params_of_clauses cs
  unfolding change_clauses params_of_clauses
  rename_clauses_params [] = refl
  rename_clauses_params (clause e φ x ∷ cs) = rw (rename_params x, rename_clauses_params cs)

-- ---- the limits

abbrev entry_of : Option ℕ → Item → Entry
entry_of m y = record { item = y; viewer = m }

all_made : (P : Entry → Type 0) (m : Option ℕ) (n : ℕ) (f : ℕ → Item) → ((j : ℕ) → j < n → P (entry_of m (f j))) → All P (map (entry_of m) (up_to n f))
unfolding up_to
all_made P m zero f h = tt
all_made P m (suc n) f h = (h zero (omega arith), all_made P m n (λ i. f (suc i)) (λ j b. h (suc j) (omega arith)))

module _ (xs : List Entry) (few : cell_count xs ≤ 64) (n : ℕ) where
  cells_fit : (m : Option ℕ) (x : Item) → ItemFits n x → ByteFits m → All (EntryFits n) (map (entry_of m) (cells_out xs x))
  cells_fit m (formula x) h b = ((h, b), tt)
  cells_fit m (state s cs) h b = ((h, b), tt)
  cells_fit m (row c s cs) h b =
      all_made (EntryFits n) m c (λ j. state s (rename_clauses (meant xs c j) cs))
      (λ j l. ((h.2, rename_clauses_fit (meant xs c j) (λ k q. meant_small xs c j k few l q) n cs h.3), b))

  pub out_fit : (ys : List Entry) → All (EntryFits n) ys → All (EntryFits n) (entries_out xs ys)
  unfolding entries_out flat_map
  out_fit [] h = tt
  out_fit (y ∷ ys) h = all_join (EntryFits n) (entry_out xs y) (entries_out xs ys) (cells_fit y.viewer y.item h.0.0 h.0.1) (out_fit ys h.1)

pub rows_fit : (s : Sheet) → SheetFits s → All (EntryFits (length s.signals)) (rows_out s).entries
rows_fit s h = out_fit s.entries h.few_behaviours (length s.signals) s.entries h.each

-- ---- the parameters used

-- one of two names a parameter
pub either_uses : (a b : ℕ) → ltb 0 a || ltb 0 b ≡ ltb 0 (max a b)
either_uses a b =
    split (ltb 0 a)
    (λ e. rw (e, lt-ltb 0 (max a b) (omega (arith, ltb-true 0 a e))))
    (λ e. let z : max a b ≡ b = omega (arith, ltb-false 0 a e) in rw (e, z))

pub params_append : (l m : List Entry) → params_of_entries (l ++ m) ≡ max (params_of_entries l) (params_of_entries m)
unfolding params_of_entries
params_append [] m = omega arith
params_append (x ∷ l) m = rw (params_append l m) (omega arith)

-- of cells that name the same parameters: none names more, and where there is a cell, it names as many
made_most : (m : Option ℕ) (k n : ℕ) (f : ℕ → Item) → ((j : ℕ) → params_of_item (f j) ≡ k) → params_of_entries (map (entry_of m) (up_to n f)) ≤ k
unfolding up_to params_of_entries
made_most m k zero f h = omega arith
made_most m k (suc n) f h = omega (arith, h zero, made_most m k n (λ i. f (suc i)) (λ j. h (suc j)))

made_all : (m : Option ℕ) (k n : ℕ) (f : ℕ → Item) → 0 < n → ((j : ℕ) → params_of_item (f j) ≡ k) → params_of_entries (map (entry_of m) (up_to n f)) ≡ k
unfolding up_to params_of_entries
made_all m k zero f b h = absurd (omega arith)
made_all m k (suc n) f b h = omega (arith, h zero, made_most m k n (λ i. f (suc i)) (λ j. h (suc j)))

cells_most : (xs : List Entry) (m : Option ℕ) (x : Item) → params_of_entries (map (entry_of m) (cells_out xs x)) ≤ params_of_item x
unfolding params_of_entries
cells_most xs m (formula x) = omega arith
cells_most xs m (state s cs) = omega arith
cells_most xs m (row c s cs) =
    made_most m (params_of_clauses cs) c (λ j. state s (rename_clauses (meant xs c j) cs)) (λ j. rename_clauses_params (meant xs c j) cs)

cells_all : (xs : List Entry) (m : Option ℕ) (x : Item) → 0 < cells x → params_of_entries (map (entry_of m) (cells_out xs x)) ≡ params_of_item x
unfolding params_of_entries
cells_all xs m (formula x) h = omega arith
cells_all xs m (state s cs) h = omega arith
cells_all xs m (row c s cs) h =
    made_all m (params_of_clauses cs) c (λ j. state s (rename_clauses (meant xs c j) cs)) h (λ j. rename_clauses_params (meant xs c j) cs)

-- the sheet written out names no more parameters, and as many where each row has a cell
pub out_most : (xs ys : List Entry) → params_of_entries (entries_out xs ys) ≤ params_of_entries ys
unfolding entries_out flat_map params_of_entries
out_most xs [] = omega arith
out_most xs (y ∷ ys) =
    rw (params_append (entry_out xs y) (entries_out xs ys)) (omega (arith, cells_most xs y.viewer y.item, out_most xs ys))

out_all : (xs ys : List Entry) → All (λ (y : Entry). 0 < cells y.item) ys → params_of_entries (entries_out xs ys) ≡ params_of_entries ys
unfolding entries_out flat_map params_of_entries
out_all xs [] f = refl
out_all xs (y ∷ ys) f = rw (params_append (entry_out xs y) (entries_out xs ys), cells_all xs y.viewer y.item f.0, out_all xs ys f.1)

pub uses_out : (s : Sheet) → All (λ (y : Entry). 0 < cells y.item) s.entries → uses (rows_out s) ≡ uses s
uses_out s f = rw (out_all s.entries s.entries f)

-- ---- parameters written out as constants (M-103), and rows: in either order

module _ (v : ℕ → ℕ) where
  pub written_cells_count : (x : Item) → cells (change_item (write_term v) x) ≡ cells x
  written_cells_count (formula x) = refl
  written_cells_count (state s cs) = refl
  written_cells_count (row c s cs) = refl

  written_is_row : (c : ℕ) (x : Item) → is_row c (change_item (write_term v) x) ≡ is_row c x
  written_is_row c (formula x) = refl
  written_is_row c (state s cs) = refl
  written_is_row c (row k s cs) = refl

  written_heads : (xs : List Entry) (c m : ℕ) → heads (change_entries (write_term v) xs) c m ≡ heads xs c m
  unfolding heads change_entries
  written_heads [] c m = refl
  written_heads (x ∷ xs) c m = rw (written_is_row c x.item, written_cells_count x.item, written_heads xs c (m - cells x.item))

  module _ (f g : ℕ → ℕ) (same : (m : ℕ) → f m ≡ g m) where
    term_turn : (x : Term) → rename_term f (write_term v x) ≡ write_term v (rename_term g x)
    unfolding rename_term fill_term as_sent
    term_turn (literal w) = refl
    term_turn (variable i) = rw (same i)
    term_turn (param n) = refl
    term_turn (apply1 h a) = rw (term_turn a)
    term_turn (apply2 h a b) = rw (term_turn a, term_turn b)
    term_turn (apply3 h a b c) = rw (term_turn a, term_turn b, term_turn c)

    clauses_turn : (cs : List Clause) → rename_clauses f (change_clauses (write_term v) cs) ≡ change_clauses (write_term v) (rename_clauses g cs)
    unfolding change_clauses
    clauses_turn [] = refl
    clauses_turn (clause e φ x ∷ cs) = rw (term_turn x, clauses_turn cs)

  made_turn : (m : Option ℕ) (n : ℕ) (f g : ℕ → Item) → ((j : ℕ) → f j ≡ change_item (write_term v) (g j)) → map (entry_of m) (up_to n f) ≡ map (change_entry (write_term v)) (map (entry_of m) (up_to n g))
  unfolding up_to
  made_turn m zero f g h = refl
  made_turn m (suc n) f g h = λ t. entry_of m (h zero t) ∷ made_turn m n (λ i. f (suc i)) (λ i. g (suc i)) (λ j. h (suc j)) t

  cells_turn : (xs : List Entry) (m : Option ℕ) (x : Item) → map (entry_of m) (cells_out (change_entries (write_term v) xs) (change_item (write_term v) x)) ≡ map (change_entry (write_term v)) (map (entry_of m) (cells_out xs x))
  cells_turn xs m (formula x) = refl
  cells_turn xs m (state s cs) = refl
  cells_turn xs m (row c s cs) =
      made_turn m c (λ j. state s (rename_clauses (meant (change_entries (write_term v) xs) c j) (change_clauses (write_term v) cs))) (λ j. state s (rename_clauses (meant xs c j) cs))
      (λ j. ap (state s) (clauses_turn (meant (change_entries (write_term v) xs) c j) (meant xs c j) (λ k. ap (λ (b : Bool). pick b (k + j) k) (written_heads xs c k)) cs))

  out_turn : (xs ys : List Entry) → entries_out (change_entries (write_term v) xs) (change_entries (write_term v) ys) ≡ change_entries (write_term v) (entries_out xs ys)
  unfolding entries_out flat_map change_entries
  out_turn xs [] = refl
  out_turn xs (y ∷ ys) =
      rw (map-append (change_entry (write_term v)) (entry_out xs y) (entries_out xs ys)) (λ t. cells_turn xs y.viewer y.item t ++ out_turn xs ys t)

  pub written_rows : (s : Sheet) → rows_out (as_written_out v s) ≡ as_written_out v (rows_out s)
  written_rows s = λ t. record { signals = s.signals; entries = out_turn s.entries s.entries t }

-- ---- a sheet without rows is written out already

abbrev Plain : Entry → Type 0
Plain x = (xs : List Entry) → entry_out xs x ≡ x ∷ []

out_plain : (xs ys : List Entry) → All Plain ys → entries_out xs ys ≡ ys
unfolding entries_out flat_map
out_plain xs [] h = refl
out_plain xs (y ∷ ys) h = rw (h.0 xs, out_plain xs ys h.1)

made_plain : (xs : List Entry) (m : Option ℕ) (x : Item) → All Plain (map (entry_of m) (cells_out xs x))
made_plain xs m (formula x) = ((λ ys. refl), tt)
made_plain xs m (state s cs) = ((λ ys. refl), tt)
made_plain xs m (row c s cs) = all_made Plain m c (λ j. state s (rename_clauses (meant xs c j) cs)) (λ j b ys. refl)

plain_out : (xs ys : List Entry) → All Plain (entries_out xs ys)
unfolding entries_out flat_map
plain_out xs [] = tt
plain_out xs (y ∷ ys) = all_join Plain (entry_out xs y) (entries_out xs ys) (made_plain xs y.viewer y.item) (plain_out xs ys)

pub rows_once : (s : Sheet) → rows_out (rows_out s) ≡ rows_out s
rows_once s =
    λ t. record {
      signals = s.signals;
      entries = out_plain (rows_out s).entries (rows_out s).entries (plain_out s.entries s.entries) t;
    }

-- "It means the sheet in which each cell is written out as an active"
pub means_rows_out : (v : ℕ → ℕ) (s : Sheet) → fill v (rows_out s) ≡ fill v s
means_rows_out v s = ap (fill_cells v) (rows_once s)

-- and it is within the limits if the sheet is, "only that 3 counts the bytes as sent"
pub rows_out_fit : (s : Sheet) → SheetFits s → length (encode (rows_out s)) ≤ 8192 → SheetFits (rows_out s)
rows_out_fit s f h = record {
  few_events = f.few_events;
  few_behaviours = omega (arith, length_out (rows_out s).entries (rows_out s).entries, ap (λ (t : Sheet). length t.entries) (rows_once s), length_out s.entries s.entries, f.few_behaviours);
  scale = f.scale;
  each = rows_fit s f;
  few_bytes = h;
}
