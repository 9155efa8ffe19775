-- The text that a sheet is described by means that sheet: its invented names are found as they were given out, by
-- induction on the entries, and what is found for each is what it stands for.
use Rattle.lib_base.proofs.Prelude.{ℕ, ◌≤◌, ◌<◌, ◌+◌, ◌-◌, suc, zero, ◌^◌, ◌≡◌, refl, ◌∙◌, ap, true, false, Bool, ◌≢◌}
use Rattle.lib_base.proofs.Prelude.{Option, some, none, List, [], ◌∷◌, map, length, eqb, ltb, ne_eqb, eqb-true, lt-ltb}
use Rattle.lib_base.proofs.Prelude.{eq-eqb, ltb-false, eqb-false, ltb-true, arith}
use Rattle.lib_base.specs.Basics.{All}
use Rattle.lib_base.proofs.Tools.{split, all_below, each_below}
use Rattle.spec_language.specs.Sheet.{Term, variable, Clause, clause, Item, formula, state, row, Signal, Entry, Sheet, cells, cell_count, fill_term, fill_clauses, fill_item, fill_entries}
use Rattle.spec_language.specs.Grammar.{unary, ternary, binary, TermFits, t_literal, t_variable, t_param, t_apply1, t_apply2, t_apply3, ClausesFit, ItemFits, ByteFits, EntryFits, SignalFits}
use Rattle.spec_language.specs.Accepted.{NamesIn, HandlerNamesIn, BehaviourNamesIn}
use Rattle.source_language.specs.Tokens.{same}
use Rattle.source_language.specs.Text.{TextBehaviour}
use Rattle.source_language.specs.Faults.{fine}
use Rattle.source_language.specs.Limits.{body_cells}
use Rattle.source_language.specs.Meaning.{constant_word, among_players, bits_below, rights_of, NameMeaning, a_parameter, found_as, behaviour_named, meaning_of_name, event_named, name_term, cell_term, term_of, clauses_of, item_of, entries_of, signal_of, sheet_of}
use Rattle.source_rendering.specs.Describe.{digits, event_name, behaviour_name, parameter_name, described_constant, cell_named, phrase_of, described_reactions, described_body, players_from, players_in, described_behaviours, described_events, parameters_from, text_of}
use Rattle.spec_language.specs.Sheet.{params_of, params_of_clauses, params_of_item, params_of_entries}
use Rattle.source_language.proofs.Scans.{same_is, same_self}
use Rattle.source_rendering.proofs.Digits.{digits_own}

-- ---- words, bytes, names

pub constant_word_law : (w : ℕ) → w < 2 ^ 32 → constant_word (described_constant w) ≡ w
constant_word_law w h =
    split (ltb w 2147483648) (λ e. rw e) (λ e. rw e (omega (arith, ltb-false w 2147483648 e)))

bits_fine : ℕ → Bool
bits_fine m = eqb (bits_below 8 (players_from 8 0 m)) m

bytes_fine : all_below 256 bits_fine ≡ true
unfolding all_below bits_fine bits_below players_from among_players
bytes_fine = refl

pub rights_back : (m : Option ℕ) → ByteFits m → rights_of (players_in m) ≡ m
unfolding bits_fine
rights_back none h = refl
rights_back (some m) h = ap some (eqb-true (bits_below 8 (players_from 8 0 m)) m (each_below 256 bits_fine bytes_fine m h))

-- names with one letter are the same only for the same number
pub same_number : (a m n : ℕ) → m ≢ n → same (a ∷ digits m) (a ∷ digits n) ≡ false
same_number a m n h =
    split (same (a ∷ digits m) (a ∷ digits n))
    (λ e. absurd (h (digits_own m n (tail_same (digits m) (digits n) (same_is (a ∷ digits m) (a ∷ digits n) e))))) (λ e. e)
  where
    tail_same : (l k : List ℕ) → a ∷ l ≡ a ∷ k → l ≡ k
    tail_same l k p = cc

-- ---- what is found

pub parameter_back : (bs : List TextBehaviour) (k i n : ℕ) → i ≤ n → n < i + k → meaning_of_name i (parameters_from k i) bs (parameter_name n) ≡ a_parameter n
unfolding meaning_of_name parameters_from
parameter_back bs zero i n l h = absurd (omega arith)
parameter_back bs (suc k) i n l h =
    split (eqb n i) (λ e. let q : n ≡ i = eqb-true n i e in rw (q, same_self (parameter_name i)))
    (λ e. rw (same_number 112 n i (eqb-false n i e)) (parameter_back bs k (suc i) n (omega (arith, eqb-false n i e)) (omega arith)))

pub behaviour_back : (bs : List TextBehaviour) (k i n : ℕ) → meaning_of_name i (parameters_from k i) bs (behaviour_name n) ≡ behaviour_named 0 bs (behaviour_name n)
unfolding meaning_of_name parameters_from same
behaviour_back bs zero i n = refl
behaviour_back bs (suc k) i n = behaviour_back bs k (suc i) n

pub body_cells_law : (all : List Entry) (x : Item) → body_cells (described_body all x) ≡ cells x
body_cells_law all (formula x) = refl
body_cells_law all (state s cs) = refl
body_cells_law all (row c s cs) = refl

-- each entry has a cell
pub some_cells : (n : ℕ) (x : Item) → ItemFits n x → 0 < cells x
some_cells n (formula x) f = omega arith
some_cells n (state s cs) f = omega arith
some_cells n (row c s cs) f = omega (arith, f.0)

module _ (all : List Entry) (find : List ℕ → NameMeaning) (c n : ℕ) where
  -- find knows the names of the entries xs, of which the first has number j
  abbrev Knows : ℕ → List Entry → Type 0
  Knows j xs = (i : ℕ) → j ≤ i → find (behaviour_name i) ≡ behaviour_named j (described_behaviours all j xs) (behaviour_name i)

  knows_first : (j : ℕ) (x : Entry) (xs : List Entry) → Knows j (x ∷ xs) → find (behaviour_name j) ≡ found_as j (described_body all x.item)
  unfolding described_behaviours behaviour_named
  knows_first j x xs k = k j (omega arith) ∙ rw (same_self (behaviour_name j))

  knows_rest : (j : ℕ) (x : Entry) (xs : List Entry) → 0 < cells x.item → Knows j (x ∷ xs) → Knows (j + cells x.item) xs
  unfolding described_behaviours behaviour_named
  knows_rest j x xs l k i h = k i (omega arith) ∙ rw (same_number 98 i j (omega arith), body_cells_law all x.item)

  first_back : (j : ℕ) (x : Item) → name_term 0 (found_as j (described_body all x)) ≡ fine (variable j)
  first_back j (formula x) = refl
  first_back j (state s cs) = refl
  first_back j (row m s cs) = refl

  cell_back : (j i : ℕ) (x : Item) → j < i → i < j + cells x → cell_term c 0 0 (i - j) (found_as j (described_body all x)) ≡ fine (variable i)
  cell_back j i (formula x) l h = absurd (omega arith)
  cell_back j i (state s cs) l h = absurd (omega arith)
  cell_back j i (row m s cs) l h =
      let q : j + (i - j) ≡ i = omega arith in
      rw (lt-ltb (i - j) m (omega arith), ne_eqb (i - j) 0 (omega arith), q)

  located : (j : ℕ) (xs : List Entry) → All (EntryFits n) xs → Knows j xs → (i : ℕ) → j ≤ i → i < j + cell_count xs → term_of find c (cell_named j xs i) ≡ fine (variable i)
  unfolding cell_named cell_count term_of
  located j [] f k i l h = absurd (omega arith)
  located j (x ∷ xs) f k i l h =
      split (eqb i j)
      (λ e. let q : i ≡ j = eqb-true i j e in rw (q, eq-eqb j j refl, knows_first j x xs k) (first_back j x.item))
      (λ e. split (ltb i (j + cells x.item))
      (λ d. rw (e, d, knows_first j x xs k) (cell_back j i x.item (omega (arith, eqb-false i j e)) (ltb-true i (j + cells x.item) d)))
      (λ d. rw (e, d) (located (j + cells x.item) xs f.1 (knows_rest j x xs (some_cells n x.item f.0.0) k) i (ltb-false i (j + cells x.item) d) (omega arith))))

-- ---- formulas

module _ (xs : List Entry) (find : List ℕ → NameMeaning) (c m p : ℕ) (v : ℕ → ℕ) (params : (n : ℕ) → n < p → find (parameter_name n) ≡ a_parameter n)
    (variables : (i : ℕ) → i < m → term_of find c (cell_named 0 xs i) ≡ fine (variable i)) where
  term_back : {k : ℕ} {x : Term} → TermFits k x → NamesIn m (fill_term v x) → params_of x ≤ p → term_of find c (phrase_of xs x) ≡ fine x
  unfolding term_of phrase_of fill_term params_of
  term_back (t_literal {w = w} h) n l = rw (constant_word_law w h)
  term_back (t_variable {i = i} h) n l = variables i n
  term_back (t_param {n = i} h) n l = rw (params i (omega arith))
  term_back (t_apply1 unary a) n l = rw (term_back a n l)
  term_back (t_apply2 {a = x} {b = y} (binary q r s) a b) n l = rw (term_back a n.0 (omega arith), term_back b n.1 (omega arith))
  term_back (t_apply3 ternary a b d) n l = rw (term_back a n.0 (omega arith), term_back b n.1 (omega arith), term_back d n.2 (omega arith))

-- ---- events

pub event_back : (i e : ℕ) (xs : List Signal) → i ≤ e → e < i + length xs → event_named (described_events i xs) (event_name e) ≡ e - i
unfolding described_events event_named
event_back i e [] l h = absurd (omega arith)
event_back i e (x ∷ xs) l h =
    split (eqb e i) (λ d. let q : e ≡ i = eqb-true e i d in rw (q, same_self (event_name i)) (omega arith))
    (λ d. rw (same_number 101 e i (eqb-false e i d), event_back (suc i) e xs (omega (arith, eqb-false e i d)) (omega arith)) (omega (arith, eqb-false e i d)))

pub signals_back : (i : ℕ) (xs : List Signal) → All SignalFits xs → map signal_of (described_events i xs) ≡ xs
unfolding described_events
signals_back i [] f = refl
signals_back i (x ∷ xs) f = rw (rights_back x.sender f.0.1, signals_back (suc i) xs f.1)

-- ---- the sheet

module _ (xs : List Entry) (rs : List Signal) (find : List ℕ → NameMeaning) (m p : ℕ) (v : ℕ → ℕ) (params : (n : ℕ) → n < p → find (parameter_name n) ≡ a_parameter n)
    (variables : (c i : ℕ) → i < m → term_of find c (cell_named 0 xs i) ≡ fine (variable i)) where
  clauses_back : (c : ℕ) (cs : List Clause) → ClausesFit (length rs) cs → All (HandlerNamesIn m) (fill_clauses v cs) → params_of_clauses cs ≤ p
      → clauses_of (described_events 0 rs) find c (described_reactions xs cs) ≡ fine cs
  unfolding clauses_of described_reactions fill_clauses params_of_clauses
  clauses_back c [] f n l = refl
  clauses_back c (clause e φ x ∷ cs) f n l =
      let q : e - 0 ≡ e = omega arith in
      rw (term_back xs find c m p v params (variables c) f.1 n.0 (omega arith), clauses_back c cs f.3 n.1 (omega arith), event_back 0 e rs (omega arith) (omega (arith, f.0)), q)

  item_back : (x : Item) → ItemFits (length rs) x → BehaviourNamesIn m (fill_item v x) → params_of_item x ≤ p → item_of (described_events 0 rs) find (described_body xs x) ≡ fine x
  item_back (formula x) f n l = rw (term_back xs find 0 m p v params (variables 0) f n l)
  item_back (state s cs) f n l = rw (clauses_back 0 cs f.1 n l, constant_word_law s f.0)
  item_back (row c s cs) f n l = rw (clauses_back c cs f.3 n l, constant_word_law s f.2)

  entries_back : (j : ℕ) (ys : List Entry) → All (EntryFits (length rs)) ys → All (BehaviourNamesIn m) (fill_entries v ys) → params_of_entries ys ≤ p
      → entries_of (described_events 0 rs) find (described_behaviours xs j ys) ≡ fine ys
  unfolding entries_of described_behaviours fill_entries params_of_entries
  entries_back j [] f n l = refl
  entries_back j (y ∷ ys) f n l =
      rw (item_back y.item f.0.0 n.0 (omega arith), entries_back (j + cells y.item) ys f.1 n.1 (omega arith), rights_back y.viewer f.0.1)

-- a sheet whose fields are within their limits and whose names are among its behaviours
pub means_back : (v : ℕ → ℕ) (s : Sheet) → All SignalFits s.signals → All (EntryFits (length s.signals)) s.entries
    → All (BehaviourNamesIn (cell_count s.entries)) (fill_entries v s.entries) → sheet_of (text_of s) ≡ fine s
unfolding sheet_of
means_back v s g f n =
    let xs = s.entries in
    let p = params_of_entries xs in
    let bs = described_behaviours xs 0 xs in
    let find = meaning_of_name 0 (parameters_from p 0) bs in
    rw (
      entries_back xs s.signals find (cell_count xs) p v (λ i h. parameter_back bs p 0 i (omega arith) (omega arith))
          (λ c i h. located xs find c (length s.signals) 0 xs f (λ j l. behaviour_back bs p 0 j) i (omega arith) (omega arith)) 0 xs f n (omega arith),
      signals_back 0 s.signals g,
    )
