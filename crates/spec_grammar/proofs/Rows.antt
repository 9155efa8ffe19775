-- Rows and the order of faults (02, M-110): a sheet and the sheet written out have the same first fault or none, where
-- each row that is met, and whose first cell is one of the 64, has 2 to 16 cells, and handlers without a fault if later
-- cells of it pass the 64th behaviour. Names written otherwise change no fault, so each cell has the row's; the rest by
-- induction on the entries, counting behaviours.
use Rattle.lib_base.proofs.Prelude.{ℕ, ◌≤◌, ◌<◌, ◌+◌, suc, zero, ◌≡◌, refl, ◌∙◌, sym, ap, subst, true, false, Option}
use Rattle.lib_base.proofs.Prelude.{none, List, [], ◌∷◌, ◌++◌, map, flat_map, length, ltb, leb, le-ltb, lt-ltb}
use Rattle.lib_base.proofs.Prelude.{ltb-false, ltb-true, leb-false, leb-true, arith}
use Rattle.lib_base.specs.Basics.{pick, All}
use Rattle.lib_base.proofs.Tools.{split}
use Rattle.spec_language.specs.Syntax.{Phase}
use Rattle.spec_language.specs.Sheet.{Term, literal, variable, param, apply1, apply2, apply3, Clause, clause, Item, formula, state, row, Signal, Entry, Sheet, cells, cell_count, meant, change_clauses}
use Rattle.spec_language.specs.Sheet.{rename_term, rename_clauses, cells_out, entries_out, rows_out}
use Rattle.spec_language.specs.Order.{up_to}
use Rattle.spec_language.specs.Grammar.{ClausesFit}
use Rattle.spec_language.specs.Reading.{Got, bad, got, handles, entry, sheet}
use Rattle.spec_grammar.proofs.Behaviours.{behaviour-reads}
use Rattle.spec_grammar.proofs.Faults.{result_of, expr_fault, clauses_fault, item_fault, item_result, entries_fault, events_fault, sheet_fault, first}

-- ---- names written otherwise

module _ (f : ℕ → ℕ) where
  expr_renamed : (k : ℕ) (x : Term) → expr_fault k (rename_term f x) ≡ expr_fault k x
  unfolding expr_fault rename_term
  expr_renamed zero x = refl
  expr_renamed (suc k) (literal w) = refl
  expr_renamed (suc k) (variable i) = refl
  expr_renamed (suc k) (param n) = refl
  expr_renamed (suc k) (apply1 g a) = rw (expr_renamed k a)
  expr_renamed (suc k) (apply2 g a b) = rw (expr_renamed k a, expr_renamed k b)
  expr_renamed (suc k) (apply3 g a b c) = rw (expr_renamed k a, expr_renamed k b, expr_renamed k c)

  handles_renamed : (e : ℕ) (hs : List Clause) → handles e (rename_clauses f hs) ≡ handles e hs
  unfolding handles change_clauses
  handles_renamed e [] = refl
  handles_renamed e (clause g φ x ∷ hs) = rw (handles_renamed e hs)

  rename_snoc : (hs : List Clause) (e : ℕ) (φ : Phase) (x : Term) → rename_clauses f (hs ++ (clause e φ x ∷ [])) ≡ rename_clauses f hs ++ (clause e φ (rename_term f x) ∷ [])
  unfolding change_clauses
  rename_snoc [] e φ x = refl
  rename_snoc (clause g ψ y ∷ hs) e φ x = ap (λ (l : List Clause). clause g ψ (rename_term f y) ∷ l) (rename_snoc hs e φ x)

  clauses_renamed : (n : ℕ) (hs ks : List Clause) → clauses_fault n (rename_clauses f hs) (rename_clauses f ks) ≡ clauses_fault n hs ks
  unfolding clauses_fault change_clauses
  clauses_renamed n hs [] = refl
  clauses_renamed n hs (clause e φ x ∷ ks) =
      let i = rw (rename_snoc hs e φ x) at (clauses_renamed n (hs ++ (clause e φ x ∷ [])) ks) in
      rw (handles_renamed e hs, expr_renamed 16 x, i)

  handlers_renamed : (n : ℕ) (cs : List Clause) → clauses_fault n [] (rename_clauses f cs) ≡ clauses_fault n [] cs
  unfolding change_clauses
  handlers_renamed n cs = clauses_renamed n [] cs

-- ---- handlers within their limits have no fault

no_fault : {A : Type 0} (m : ℕ) (x y : A) (r : List ℕ) → result_of m x r ≡ got y r → m ≡ 0
no_fault zero x y r e = refl
no_fault {A} (suc m) x y r e = absurd (subst kind e tt)
  where
    kind : Got A → Type 0
    kind (bad k) = Unit {0}
    kind (got z l) = ⊥

pub fits_faultless : (n : ℕ) (cs : List Clause) → ClausesFit n cs → clauses_fault n [] cs ≡ 0
fits_faultless n cs h =
    let x : Entry = entry (state 0 cs) none in
    no_fault (item_fault n 0 (state 0 cs)) x x [] (sym (item_result n 0 (state 0 cs) none) ∙ behaviour-reads n 0 x (omega arith) ((omega arith, h), tt))

-- ---- what is asked of rows: n events are declared, and i behaviours stand before the row

abbrev pub RowSound : ℕ → ℕ → ℕ → List Clause → Type 0
RowSound n i c cs = (1 ≤ c) × (i < 64 → (2 ≤ c) × (c ≤ 16) × (64 < i + c → clauses_fault n [] cs ≡ 0))

-- of each row that is met: what stands before it has no fault
abbrev pub RowsSound : (List Entry → ℕ) → ℕ → ℕ → List Entry → Type 0
RowsSound fault n i ys =
    (before after : List Entry) (c s : ℕ) (cs : List Clause) (v : Option ℕ) → ys ≡ before ++ (entry (row c s cs) v ∷ after) → fault before ≡ 0
    → RowSound n (i + cell_count before) c cs

-- ---- so many cells, then the rest

module _ (n : ℕ) (v : Option ℕ) (rest : List Entry) where
  abbrev made : ℕ → (ℕ → Item) → List Entry
  made c g = map (λ (y : Item). entry y v) (up_to c g) ++ rest

  -- none has a fault: the count alone decides
  cells_faultless : (c m : ℕ) (g : ℕ → Item) → ((j i : ℕ) → item_fault n i (g j) ≡ 0) → ((j : ℕ) → cells (g j) ≡ 1) → m ≤ 64
      → entries_fault n m (made c g) ≡ pick (ltb 64 (m + c)) 7 (entries_fault n (m + c) rest)
  unfolding up_to entries_fault
  cells_faultless zero m g h k b = let q : m + 0 ≡ m = omega arith in rw (q, le-ltb 64 m b)
  cells_faultless (suc c) m g h k b =
      split (leb 64 m) (λ e. rw (e, lt-ltb 64 (m + suc c) (omega (arith, leb-true 64 m e))))
      (λ e. let q : m + 1 + c ≡ m + suc c = omega arith in
      rw (e, h zero m, k zero) (rw q at (cells_faultless c (m + 1) (λ j. g (suc j)) (λ j. h (suc j)) (λ j. k (suc j)) (omega (arith, leb-false 64 m e)))))

  -- the first of them is past the 64th, or has a fault
  cells_crowded : (c m : ℕ) (g : ℕ → Item) → 0 < c → leb 64 m ≡ true → entries_fault n m (made c g) ≡ 7
  unfolding up_to entries_fault
  cells_crowded zero m g p e = absurd (omega arith)
  cells_crowded (suc c) m g p e = rw e

  cells_faulty : (c m k : ℕ) (g : ℕ → Item) → 0 < c → leb 64 m ≡ false → item_fault n m (g 0) ≡ suc k → entries_fault n m (made c g) ≡ suc k
  unfolding up_to entries_fault
  cells_faulty zero m k g p e f = absurd (omega arith)
  cells_faulty (suc c) m k g p e f = rw (e, f)

-- ---- an entry and what it is written out to, then the rest: alike if the rest is

first_alike : (f a b : ℕ) → (f ≡ 0 → a ≡ b) → first f a ≡ first f b
first_alike zero a b h = h refl
first_alike (suc f) a b h = refl

module _ (n m : ℕ) (xs rest ys : List Entry) (v : Option ℕ) where
  abbrev Alike : Item → Type 0
  Alike x =
      (leb 64 m ≡ false → item_fault n m x ≡ 0 → entries_fault n (m + cells x) rest ≡ entries_fault n (m + cells x) ys)
      → entries_fault n m (map (λ (y : Item). entry y v) (cells_out xs x) ++ rest) ≡ entries_fault n m (entry x v ∷ ys)

  single : (x : Item) → cells x ≡ 1 → (leb 64 m ≡ false → item_fault n m x ≡ 0 → entries_fault n (m + cells x) rest ≡ entries_fault n (m + cells x) ys)
      → entries_fault n m (entry x v ∷ rest) ≡ entries_fault n m (entry x v ∷ ys)
  unfolding entries_fault
  single x one h = split (leb 64 m) (λ e. rw e) (λ e. rw e (first_alike (item_fault n m x) _ _ (h e)))

  row_within : (c s : ℕ) (cs : List Clause) (k : ℕ) → clauses_fault n [] cs ≡ k → 2 ≤ c → c ≤ 16 → leb 64 m ≡ false → ltb 64 (m + c) ≡ false → Alike (row c s cs)
  unfolding entries_fault
  row_within c s cs zero f lo hi e d h =
      cells_faultless n v rest c m (λ j. state s (rename_clauses (meant xs c j) cs)) (λ j i. handlers_renamed (meant xs c j) n cs ∙ f) (λ j. refl) (omega (arith, leb-false 64 m e))
      ∙ rw (d, e, le-ltb c 2 lo, le-ltb 16 c hi, f) (h e (rw (le-ltb c 2 lo, le-ltb 16 c hi, d, f)))
  row_within c s cs (suc k) f lo hi e d h =
      cells_faulty n v rest c m k (λ j. state s (rename_clauses (meant xs c j) cs)) (omega arith) e (handlers_renamed (meant xs c 0) n cs ∙ f)
      ∙ rw (e, le-ltb c 2 lo, le-ltb 16 c hi, d, f)

  row_past : (c s : ℕ) (cs : List Clause) → clauses_fault n [] cs ≡ 0 → 2 ≤ c → c ≤ 16 → leb 64 m ≡ false → ltb 64 (m + c) ≡ true → Alike (row c s cs)
  unfolding entries_fault
  row_past c s cs f lo hi e d h =
      cells_faultless n v rest c m (λ j. state s (rename_clauses (meant xs c j) cs)) (λ j i. handlers_renamed (meant xs c j) n cs ∙ f) (λ j. refl) (omega (arith, leb-false 64 m e))
      ∙ rw (d, e, le-ltb c 2 lo, le-ltb 16 c hi)

  row_alike : (c s : ℕ) (cs : List Clause) → RowSound n m c cs → Alike (row c s cs)
  unfolding entries_fault
  row_alike c s cs r h =
      split (leb 64 m)
      (λ e. cells_crowded n v rest c m (λ j. state s (rename_clauses (meant xs c j) cs)) (omega (arith, r.0)) e ∙ rw e)
      (λ e. let f = r.1 (omega (arith, leb-false 64 m e)) in
      split (ltb 64 (m + c))
      (λ d. row_past c s cs (f.2 (ltb-true 64 (m + c) d)) f.0 f.1 e d h)
      (λ d. row_within c s cs (clauses_fault n [] cs) refl f.0 f.1 e d h))

  -- of a row, what is asked
  abbrev Asked : Item → Type 0
  Asked (formula x) = Unit {0}
  Asked (state s cs) = Unit {0}
  Asked (row c s cs) = RowSound n m c cs

  item_alike : (x : Item) → Asked x → Alike x
  item_alike (formula x) a h = single (formula x) refl h
  item_alike (state s cs) a h = single (state s cs) refl h
  item_alike (row c s cs) a h = row_alike c s cs a h

asked : (n m : ℕ) (x : Entry) (ys : List Entry) → RowsSound (entries_fault n m) n m (x ∷ ys) → Asked n m [] [] [] none x.item
unfolding entries_fault cell_count
asked n m x ys h = of x.item x.viewer refl
  where
    of : (y : Item) (v : Option ℕ) → x ≡ entry y v → Asked n m [] [] [] none y
    of (formula y) v e = tt
    of (state s cs) v e = tt
    of (row c s cs) v e = let z : m + 0 ≡ m = omega arith in rw z at (h [] ys c s cs v (ap (λ (b : Entry). b ∷ ys) e) refl)

-- ---- the sheet written out

entries_alike : (n m : ℕ) (xs ys : List Entry) → RowsSound (entries_fault n m) n m ys → entries_fault n m (entries_out xs ys) ≡ entries_fault n m ys
unfolding entries_out flat_map entries_fault cell_count
entries_alike n m xs [] h = refl
entries_alike n m xs (y ∷ ys) h =
    item_alike n m xs (entries_out xs ys) ys y.viewer y.item (asked n m y ys h)
    (λ e f. entries_alike n (m + cells y.item) xs ys
    (λ before after c s cs v q g.
    let z : m + (cells y.item + cell_count before) ≡ m + cells y.item + cell_count before = omega arith in
    rw z at (h (y ∷ before) after c s cs v (ap (λ (l : List Entry). y ∷ l) q) (rw (e, f) g))))

events_alike : (n : ℕ) (qs : List Signal) (xs ys : List Entry) → RowsSound (events_fault n qs) (n + length qs) 0 ys → events_fault n qs (entries_out xs ys) ≡ events_fault n qs ys
unfolding events_fault
events_alike n [] xs ys h = let z : n + 0 ≡ n = omega arith in entries_alike n 0 xs ys (rw z at h)
events_alike n (q ∷ qs) xs ys h =
    let z : n + suc (length qs) ≡ suc n + length qs = omega arith in
    split (leb 32 n) (λ e. rw e)
    (λ e. split (ltb 15 q.priority) (λ d. rw (e, d))
    (λ d. rw (e, d) (events_alike (suc n) qs xs ys (λ before after c s cs v p f. rw z at (h before after c s cs v p (rw (e, d) f))))))

-- the fault of the events, and of these entries after them
abbrev pub fault_before : Sheet → List Entry → ℕ
fault_before s before = sheet_fault (sheet s.signals before)

pub fault_rows : (s : Sheet) → RowsSound (fault_before s) (length s.signals) 0 s.entries → sheet_fault (rows_out s) ≡ sheet_fault s
unfolding sheet_fault
fault_rows s h =
    let z : length s.signals ≡ 0 + length s.signals = omega arith in
    events_alike 0 s.signals s.entries s.entries (subst (λ (n : ℕ). RowsSound (fault_before s) n 0 s.entries) z h)

-- ---- a sheet without a fault has no row without cells

cells_some : (n m : ℕ) (x : Item) → item_fault n m x ≡ 0 → 0 < cells x
cells_some n m (formula x) h = omega arith
cells_some n m (state s cs) h = omega arith
cells_some n m (row c s cs) h = split (ltb c 2) (λ e. absurd (omega (arith, rw e at h))) (λ e. omega (arith, ltb-false c 2 e))

first_none : (a b : ℕ) → first a b ≡ 0 → (a ≡ 0) × (b ≡ 0)
first_none zero b h = (refl, h)
first_none (suc a) b h = absurd (omega arith)

entries_some : (n m : ℕ) (ys : List Entry) → entries_fault n m ys ≡ 0 → All (λ (y : Entry). 0 < cells y.item) ys
unfolding entries_fault
entries_some n m [] h = tt
entries_some n m (y ∷ ys) h =
    split (leb 64 m) (λ e. absurd (omega (arith, rw e at h)))
    (λ e. let r = first_none (item_fault n m y.item) (entries_fault n (m + cells y.item) ys) (rw e at h) in
    (cells_some n m y.item r.0, entries_some n (m + cells y.item) ys r.1))

events_some : (n : ℕ) (qs : List Signal) (ys : List Entry) → events_fault n qs ys ≡ 0 → All (λ (y : Entry). 0 < cells y.item) ys
unfolding events_fault
events_some n [] ys h = entries_some n 0 ys h
events_some n (q ∷ qs) ys h =
    split (leb 32 n) (λ e. absurd (omega (arith, rw e at h)))
    (λ e. split (ltb 15 q.priority) (λ d. absurd (omega (arith, rw (e, d) at h))) (λ d. events_some (suc n) qs ys (rw (e, d) at h)))

pub faultless_some : (s : Sheet) → sheet_fault s ≡ 0 → All (λ (y : Entry). 0 < cells y.item) s.entries
unfolding sheet_fault
faultless_some s h = events_some 0 s.signals s.entries h
