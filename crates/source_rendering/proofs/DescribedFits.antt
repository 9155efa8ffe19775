-- The text that a sheet is described by is within the limits of texts, and its names have spellings: its names are
-- given out in order, so that no two are the same. By induction on the sheet.
use Rattle.lib_base.proofs.Prelude.{ℕ, ◌≤◌, ◌<◌, ◌+◌, suc, zero, ◌%◌, ◌/◌, ◌^◌, ◌≡◌, refl, sym, ap, true, false, Option}
use Rattle.lib_base.proofs.Prelude.{some, none, List, [], ◌∷◌, length, eqb, ltb, eqb-true, ltb-false, eqb-false}
use Rattle.lib_base.proofs.Prelude.{ltb-true, arith}
use Rattle.lib_base.specs.Basics.{pick, All}
use Rattle.lib_base.proofs.Tools.{by_test, split, all_join}
use Rattle.text_formula.specs.Nesting.{deeper}
use Rattle.text_formula.proofs.Deeper.{deeper_most}
use Rattle.spec_language.specs.Sheet.{Term, Clause, clause, Item, formula, state, row, Signal, Entry, Sheet, cells, cell_count, fill_term, fill_clauses, fill_item, fill_entries}
use Rattle.spec_language.specs.Grammar.{unary, ternary, binary, TermFits, t_literal, t_variable, t_param, t_apply1, t_apply2, t_apply3, NoClauseFor, ClausesFit, ItemFits, EntryFits, SignalFits, SheetFits}
use Rattle.spec_language.specs.Accepted.{NamesIn, HandlerNamesIn, BehaviourNamesIn}
use Rattle.source_language.specs.Tokens.{name, same, is_letter}
use Rattle.source_language.specs.Text.{Phrase}
use Rattle.source_language.specs.Limits.{among, ConstantFits, phrase_nesting, NumbersFit, PhraseFits, PlayersFit, FitInTurn, after_all, ParameterFits, with_parameter, EventFits, with_event, ReactionFits, with_reaction, BodyFits, taken, TextBehaviourFits, with_behaviour, TextFits}
use Rattle.source_rendering.specs.Describe.{digits, event_name, behaviour_name, parameter_name, described_constant, cell_named, phrase_of, described_reactions, described_body, players_from, players_in, described_behaviours, described_events, parameters_from, text_of}
use Rattle.spec_language.specs.Sheet.{params_of, params_of_clauses, params_of_item, params_of_entries}
use Rattle.source_language.proofs.Scans.{same_self}
use Rattle.source_language.proofs.Proper.{Proper, ProperReaction, ProperBody, ProperBehaviour}
use Rattle.source_rendering.proofs.Lexes.{Spelt, name_spelt}
use Rattle.source_rendering.proofs.Prints.{SpeltNames, SpeltReaction, SpeltBody, SpeltBehaviour, SpeltParameter, SpeltEvent}
use Rattle.source_rendering.proofs.Described.{same_number, body_cells_law, some_cells}

-- ---- formulas

constant_fits : (w : ℕ) → w < 2 ^ 32 → ConstantFits (described_constant w)
constant_fits w h =
    by_test ConstantFits (ltb w 2147483648) (λ e. omega (arith, ltb-true w 2147483648 e)) (λ e. omega (arith, ltb-false w 2147483648 e))

-- a phrase that is in order: within the limits of k nested, its functions of two arguments, its names spelled
record InOrder (k : ℕ) (e : Phrase) : Type 0 where
  pub numbers : NumbersFit e
  pub nested : phrase_nesting e ≤ k
  pub proper : Proper e
  pub spelt : SpeltNames e

b_spelt : (i : ℕ) → i < 100 → Spelt (name 0 (behaviour_name i))
unfolding is_letter
b_spelt i h = name_spelt 98 i refl h

e_spelt : (i : ℕ) → i < 100 → Spelt (name 0 (event_name i))
unfolding is_letter
e_spelt i h = name_spelt 101 i refl h

p_spelt : (i : ℕ) → i < 100 → Spelt (name 0 (parameter_name i))
unfolding is_letter
p_spelt i h = name_spelt 112 i refl h

cell_in_order : (k j : ℕ) (xs : List Entry) (i : ℕ) → j ≤ i → i < 100 → InOrder (suc k) (cell_named j xs i)
unfolding cell_named NumbersFit phrase_nesting Proper SpeltNames
cell_in_order k j [] i l h = record { numbers = tt; nested = omega arith; proper = tt; spelt = b_spelt i h }
cell_in_order k j (x ∷ xs) i l h =
    by_test (InOrder (suc k)) (eqb i j) (λ e. record { numbers = tt; nested = omega arith; proper = tt; spelt = b_spelt j (omega arith) })
    (λ e. by_test (InOrder (suc k)) (ltb i (j + cells x.item))
    (λ d. record { numbers = omega arith; nested = omega arith; proper = tt; spelt = b_spelt j (omega arith) })
    (λ d. cell_in_order k (j + cells x.item) xs i (ltb-false i (j + cells x.item) d) h))

module _ (xs : List Entry) (m : ℕ) (few : m ≤ 64) (v : ℕ → ℕ) where
  term_in_order : {k : ℕ} {x : Term} → TermFits k x → NamesIn m (fill_term v x) → InOrder k (phrase_of xs x)
  unfolding phrase_of fill_term NumbersFit phrase_nesting Proper SpeltNames
  term_in_order (t_literal {w = w} h) n = record { numbers = constant_fits w h; nested = omega arith; proper = tt; spelt = tt }
  term_in_order (t_variable {k} {i} h) n = cell_in_order k 0 xs i (omega arith) (omega arith)
  term_in_order (t_param {n = i} h) n = record { numbers = tt; nested = omega arith; proper = tt; spelt = p_spelt i (omega arith) }
  term_in_order (t_apply1 unary a) n =
      let r = term_in_order a n in record { numbers = r.numbers; nested = omega (arith, r.nested); proper = r.proper; spelt = r.spelt }
  term_in_order (t_apply2 {k} {a = x} {b = y} (binary q r s) a b) n =
      let g = term_in_order a n.0 in
      let h = term_in_order b n.1 in
      let d = deeper_most (phrase_nesting (phrase_of xs x)) (phrase_nesting (phrase_of xs y)) k g.nested h.nested in
      record { numbers = (g.numbers, h.numbers); nested = omega arith; proper = (binary q r s, g.proper, h.proper); spelt = (g.spelt, h.spelt) }
  term_in_order (t_apply3 {k} {a = x} {b = y} {c = z} ternary a b c) n =
      let g = term_in_order a n.0 in
      let h = term_in_order b n.1 in
      let i = term_in_order c n.2 in
      let d = deeper_most (phrase_nesting (phrase_of xs x)) (phrase_nesting (phrase_of xs y)) k g.nested h.nested in
      let e = deeper_most (deeper (phrase_nesting (phrase_of xs x)) (phrase_nesting (phrase_of xs y))) (phrase_nesting (phrase_of xs z)) k d i.nested in
      record {
        numbers = (g.numbers, h.numbers, i.numbers);
        nested = omega arith;
        proper = (g.proper, h.proper, i.proper);
        spelt = (g.spelt, h.spelt, i.spelt);
      }

-- ---- names given out in order

-- none of these names is that letter with a number from i on
Fresh : ℕ → ℕ → List (List ℕ) → Type 0
Fresh a i ns = (n : ℕ) → i ≤ n → among (a ∷ digits n) ns ≡ false

fresh_next : (a i j : ℕ) (ns : List (List ℕ)) → i < j → Fresh a i ns → Fresh a j ((a ∷ digits i) ∷ ns)
unfolding Fresh among
fresh_next a i j ns l f n h = rw (same_number a n i (omega arith)) (f n (omega arith))

parameters_fit : (k i : ℕ) (ns : List (List ℕ)) → Fresh 112 i ns → length ns ≡ i → i + k ≤ 8 → FitInTurn ParameterFits with_parameter ns (parameters_from k i)
unfolding parameters_from Fresh
parameters_fit zero i ns f e h = tt
parameters_fit (suc k) i ns f e h =
    ((omega arith, f i (omega arith), tt), parameters_fit k (suc i) (parameter_name i ∷ ns) (fresh_next 112 i (suc i) ns (omega arith) f) (ap suc e) (omega arith))

players_few : (k n m : ℕ) → n + k ≤ 8 → All (λ i. i ≤ 7) (players_from k n m)
unfolding players_from
players_few zero n m h = tt
players_few (suc k) n m h =
    all_join (λ i. i ≤ 7) (pick (eqb (m / 2 ^ n % 2) 1) (n ∷ []) []) (players_from k (suc n) m)
    (by_test (All (λ i. i ≤ 7)) (eqb (m / 2 ^ n % 2) 1) (λ e. (omega arith, tt)) (λ e. tt)) (players_few k (suc n) m (omega arith))

players_fit : (m : Option ℕ) → PlayersFit (players_in m)
players_fit none = tt
players_fit (some m) = players_few 8 0 m (omega arith)

events_fit : (i : ℕ) (xs : List Signal) (ns : List (List ℕ)) → Fresh 101 i ns → length ns ≡ i → i + length xs ≤ 32 → All SignalFits xs
    → FitInTurn EventFits with_event ns (described_events i xs)
unfolding described_events Fresh
events_fit i [] ns f e h s = tt
events_fit i (x ∷ xs) ns f e h s = (
  (omega arith, f i (omega arith), s.0.0, players_fit x.sender),
  events_fit (suc i) xs (event_name i ∷ ns) (fresh_next 101 i (suc i) ns (omega arith) f) (ap suc e) (omega arith) s.1,
)

-- each event is among those declared
kept_among : (s : List ℕ) (i : ℕ) (xs : List Signal) (ns : List (List ℕ)) → among s ns ≡ true → among s (after_all with_event ns (described_events i xs)) ≡ true
unfolding described_events after_all among
kept_among s i [] ns h = h
kept_among s i (x ∷ xs) ns h = kept_among s (suc i) xs (event_name i ∷ ns) (by_test (λ b. b ≡ true) (same s (event_name i)) (λ e. refl) (λ e. h))

event_among : (e i : ℕ) (xs : List Signal) (ns : List (List ℕ)) → i ≤ e → e < i + length xs → among (event_name e) (after_all with_event ns (described_events i xs)) ≡ true
unfolding described_events after_all among
event_among e i [] ns l h = absurd (omega arith)
event_among e i (x ∷ xs) ns l h =
    split (eqb e i) (λ d. let q : e ≡ i = eqb-true e i d in kept_among (event_name e) (suc i) xs (event_name i ∷ ns) (rw (q, same_self (event_name i))))
    (λ d. event_among e (suc i) xs (event_name i ∷ ns) (omega (arith, eqb-false e i d)) (omega arith))

-- ---- handlers

-- none of these names is an event of the handlers
FreeOf : List (List ℕ) → List Clause → Type 0
FreeOf ns [] = Unit {0}
FreeOf ns (clause e φ x ∷ cs) = (among (event_name e) ns ≡ false) × FreeOf ns cs

free_none : (cs : List Clause) → FreeOf [] cs
unfolding FreeOf among
free_none [] = tt
free_none (clause e φ x ∷ cs) = (refl, free_none cs)

free_more : (e : ℕ) (ns : List (List ℕ)) (cs : List Clause) → NoClauseFor e cs → FreeOf ns cs → FreeOf (event_name e ∷ ns) cs
unfolding FreeOf among
free_more e ns [] n f = tt
free_more e ns (clause g φ x ∷ cs) n f = (rw (same_number 101 g e (λ q. n.0 (sym q))) f.0, free_more e ns cs n.1 f.1)

phrase_fits : {e : Phrase} → InOrder 16 e → PhraseFits e
phrase_fits r = record { numbers = r.numbers; nested = r.nested }

module _ (xs : List Entry) (rs : List Signal) (m : ℕ) (few : m ≤ 64) (many : length rs ≤ 32) (v : ℕ → ℕ) where
  abbrev es : List (List ℕ)
  es = after_all with_event [] (described_events 0 rs)

  reactions_fit : (ns : List (List ℕ)) (cs : List Clause) → ClausesFit (length rs) cs → All (HandlerNamesIn m) (fill_clauses v cs) → FreeOf ns cs
      → FitInTurn (ReactionFits es) with_reaction ns (described_reactions xs cs)
  unfolding described_reactions fill_clauses FreeOf
  reactions_fit ns [] f n g = tt
  reactions_fit ns (clause e φ x ∷ cs) f n g = (
    (g.0, event_among e 0 rs [] (omega arith) (omega (arith, f.0)), phrase_fits (term_in_order xs m few v f.1 n.0)),
    reactions_fit (event_name e ∷ ns) cs f.3 n.1 (free_more e ns cs f.2 g.1),
  )

  reactions_good : (cs : List Clause) → ClausesFit (length rs) cs → All (HandlerNamesIn m) (fill_clauses v cs)
      → All ProperReaction (described_reactions xs cs) × All SpeltReaction (described_reactions xs cs)
  unfolding described_reactions fill_clauses
  reactions_good [] f n = (tt, tt)
  reactions_good (clause e φ x ∷ cs) f n =
      let r = term_in_order xs m few v f.1 n.0 in
      let g = reactions_good cs f.3 n.1 in
      ((r.proper, g.0), ((e_spelt e (omega (arith, f.0)), r.spelt), g.1))

  -- ---- behaviours

  body_fits : (x : Item) → ItemFits (length rs) x → BehaviourNamesIn m (fill_item v x) → BodyFits es (described_body xs x)
  body_fits (formula x) f n = phrase_fits (term_in_order xs m few v f n)
  body_fits (state s cs) f n = (constant_fits s f.0, reactions_fit [] cs f.1 n (free_none cs))
  body_fits (row c s cs) f n = (f.0, f.1, constant_fits s f.2, reactions_fit [] cs f.3 n (free_none cs))

  body_good : (x : Item) → ItemFits (length rs) x → BehaviourNamesIn m (fill_item v x) → ProperBody (described_body xs x) × SpeltBody (described_body xs x)
  body_good (formula x) f n = let r = term_in_order xs m few v f n in (r.proper, r.spelt)
  body_good (state s cs) f n = reactions_good cs f.1 n
  body_good (row c s cs) f n = reactions_good cs f.3 n

  behaviours_fit : (j : ℕ) (ys : List Entry) (ns : List (List ℕ)) → Fresh 98 j ns → j + cell_count ys ≤ 64 → All (EntryFits (length rs)) ys
      → All (BehaviourNamesIn m) (fill_entries v ys) → FitInTurn (TextBehaviourFits es) with_behaviour (taken ns j) (described_behaviours xs j ys)
  unfolding described_behaviours cell_count fill_entries Fresh
  behaviours_fit j [] ns f h g n = tt
  behaviours_fit j (y ∷ ys) ns f h g n =
      let c = some_cells (length rs) y.item g.0.0 in
      rw (body_cells_law xs y.item) (
        (omega arith, f j (omega arith), body_fits y.item g.0.0 n.0, players_fit y.viewer),
        behaviours_fit (j + cells y.item) ys (behaviour_name j ∷ ns) (fresh_next 98 j (j + cells y.item) ns (omega arith) f) (omega arith) g.1 n.1,
      )

  behaviours_good : (j : ℕ) (ys : List Entry) → j + cell_count ys ≤ 64 → All (EntryFits (length rs)) ys → All (BehaviourNamesIn m) (fill_entries v ys)
      → All ProperBehaviour (described_behaviours xs j ys) × All SpeltBehaviour (described_behaviours xs j ys)
  unfolding described_behaviours cell_count fill_entries
  behaviours_good j [] h g n = (tt, tt)
  behaviours_good j (y ∷ ys) h g n =
      let c = some_cells (length rs) y.item g.0.0 in
      let r = body_good y.item g.0.0 n.0 in
      let t = behaviours_good (j + cells y.item) ys (omega arith) g.1 n.1 in
      ((r.0, t.0), ((b_spelt j (omega arith), r.1), t.1))

-- ---- parameters

params_few : {k : ℕ} {x : Term} → TermFits k x → params_of x ≤ 8
unfolding params_of
params_few (t_literal h) = omega arith
params_few (t_variable h) = omega arith
params_few (t_param h) = h
params_few (t_apply1 r a) = params_few a
params_few (t_apply2 r a b) = omega (arith, params_few a, params_few b)
params_few (t_apply3 r a b c) = omega (arith, params_few a, params_few b, params_few c)

clauses_few : (n : ℕ) (cs : List Clause) → ClausesFit n cs → params_of_clauses cs ≤ 8
unfolding params_of_clauses
clauses_few n [] f = omega arith
clauses_few n (clause e φ x ∷ cs) f = omega (arith, params_few f.1, clauses_few n cs f.3)

item_few : (n : ℕ) (x : Item) → ItemFits n x → params_of_item x ≤ 8
item_few n (formula x) f = params_few f
item_few n (state s cs) f = clauses_few n cs f.1
item_few n (row c s cs) f = clauses_few n cs f.3

pub entries_few : (n : ℕ) (xs : List Entry) → All (EntryFits n) xs → params_of_entries xs ≤ 8
unfolding params_of_entries
entries_few n [] f = omega arith
entries_few n (x ∷ xs) f = omega (arith, item_few n x.item f.0.0, entries_few n xs f.1)

parameters_spelt : (k i : ℕ) → i + k ≤ 8 → All SpeltParameter (parameters_from k i)
unfolding parameters_from
parameters_spelt zero i h = tt
parameters_spelt (suc k) i h = (p_spelt i (omega arith), parameters_spelt k (suc i) (omega arith))

events_spelt : (i : ℕ) (xs : List Signal) → i + length xs ≤ 32 → All SpeltEvent (described_events i xs)
unfolding described_events
events_spelt i [] h = tt
events_spelt i (x ∷ xs) h = (e_spelt i (omega arith), events_spelt (suc i) xs (omega arith))

-- no behaviour's name is a parameter's
other_fresh : (k i : ℕ) (ns : List (List ℕ)) → Fresh 98 0 ns → Fresh 98 0 (after_all with_parameter ns (parameters_from k i))
unfolding parameters_from after_all Fresh among same
other_fresh zero i ns f = f
other_fresh (suc k) i ns f = other_fresh k (suc i) (parameter_name i ∷ ns) (λ n h. f n h)

-- ---- the text

module _ (v : ℕ → ℕ) (s : Sheet) (f : SheetFits s) (n : All (BehaviourNamesIn (cell_count s.entries)) (fill_entries v s.entries)) where
  pub described_fits : TextFits (text_of s)
  unfolding Fresh among
  described_fits = (
    parameters_fit (params_of_entries s.entries) 0 [] (λ i h. refl) refl (omega (arith, entries_few (length s.signals) s.entries f.each)),
    events_fit 0 s.signals [] (λ i h. refl) refl (omega (arith, f.few_events)) f.scale,
    behaviours_fit s.entries s.signals (cell_count s.entries) f.few_behaviours f.few_events v 0 s.entries
        (after_all with_parameter [] (parameters_from (params_of_entries s.entries) 0)) (other_fresh (params_of_entries s.entries) 0 [] (λ i h. refl))
        (omega (arith, f.few_behaviours)) f.each n,
  )

  pub described_parameters : All SpeltParameter (parameters_from (params_of_entries s.entries) 0)
  described_parameters = parameters_spelt (params_of_entries s.entries) 0 (omega (arith, entries_few (length s.signals) s.entries f.each))

  pub described_events_law : All SpeltEvent (described_events 0 s.signals)
  described_events_law = events_spelt 0 s.signals (omega (arith, f.few_events))

  pub described_behaviours_law : All ProperBehaviour (described_behaviours s.entries 0 s.entries) × All SpeltBehaviour (described_behaviours s.entries 0 s.entries)
  described_behaviours_law =
      behaviours_good s.entries s.signals (cell_count s.entries) f.few_behaviours f.few_events v 0 s.entries (omega (arith, f.few_behaviours)) f.each n
