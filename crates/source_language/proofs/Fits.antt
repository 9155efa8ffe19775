-- The sheet that a text means is within 01's limits field by field, but for its length in bytes, and each of its names
-- is a behaviour's: from the text's own limits, by induction on the text.
use Rattle.lib_base.proofs.Prelude.{ℕ, ◌≤◌, ◌<◌, ◌+◌, suc, zero, ◌^◌, ◌≡◌, refl, ◌∙◌, sym, subst, true, false≢true}
use Rattle.lib_base.proofs.Prelude.{◌&&◌, Option, some, none, List, [], ◌∷◌, map, length, length-map, eqb, ltb}
use Rattle.lib_base.proofs.Prelude.{ltb-true, arith}
use Rattle.lib_base.specs.Basics.{All}
use Rattle.lib_base.proofs.Tools.{by_test}
use Rattle.text_formula.specs.Nesting.{deeper}
use Rattle.text_formula.proofs.Deeper.{deeper_left, deeper_right}
use Rattle.spec_language.specs.Dependence.{size}
use Rattle.spec_language.specs.Sheet.{Term, variable, param, Clause, Item, Entry, Sheet, cells, cell_count, rows_out, fill_term, fill_clauses, fill_item, fill_entries, fill}
use Rattle.spec_language.specs.Reading.{sheet}
use Rattle.spec_language.specs.Grammar.{encode, unary, ternary, TermFits, t_literal, t_variable, t_param, t_apply1, t_apply2, t_apply3, NoClauseFor, ClausesFit, ItemFits, ByteFits, SignalFits, EntryFits, SheetFits}
use Rattle.spec_language.specs.Accepted.{NamesIn, HandlerNamesIn, BehaviourNamesIn, Known}
use Rattle.spec_language.proofs.RowLaws.{length_out}
use Rattle.spec_language.proofs.RowNames.{names_known_law}
use Rattle.spec_language.proofs.SheetLaws.{length_fill}
use Rattle.source_language.specs.Tokens.{same}
use Rattle.source_language.specs.Text.{TextConstant, plus, minus, Phrase, constant, named, cell, negation, operation, choice, Reaction, on, Body, passive, active, row, TextEvent, event, TextBehaviour, behaviour, Text}
use Rattle.source_language.specs.Faults.{OrFault, fault, fine, and_then}
use Rattle.source_language.specs.Grammar.{a_text, TextSays, says}
use Rattle.source_language.specs.Limits.{among, ConstantFits, phrase_nesting, NumbersFit, FitInTurn, after_all, with_parameter, EventFits, with_event, ReactionFits, with_reaction, body_cells, BodyFits, taken, TextBehaviourFits, with_behaviour, TextFits}
use Rattle.source_language.specs.Meaning.{constant_word, among_players, bits_below, rights_of, NameMeaning, nothing, a_parameter, a_behaviour, a_row, meaning_of_name, event_named, name_term, cell_term, term_of, clauses_of, item_of, entries_of, signal_of, sheet_of}
use Rattle.source_language.proofs.Scans.{same_self}
use Rattle.source_language.proofs.Names.{event_count_law, total, behaviour_count_law, FoundIn, found_in, event_within, event_own}
use Rattle.source_language.proofs.Proper.{Proper, ProperReaction, ProperBody, ProperBehaviour, behaviours_proper}

-- ---- what is said of a result: nothing of a fault

abbrev Okay : {A : Type 0} → (A → Type 0) → OrFault A → Type 0
Okay P (fault k p) = Unit {0}
Okay P (fine x) = P x

on_okay : {A B : Type 0} (P : B → Type 0) (Q : A → Type 0) (f : A → OrFault B) → ((x : A) → Q x → Okay P (f x)) → (r : OrFault A) → Okay Q r → Okay P (and_then r f)
on_okay P Q f b (fault k p) h = tt
on_okay P Q f b (fine x) h = b x h

both_okay : {A : Type 0} (P Q : A → Type 0) (r : OrFault A) → Okay P r → Okay Q r → Okay (λ x. P x × Q x) r
both_okay P Q (fault k p) h g = tt
both_okay P Q (fine x) h g = (h, g)

-- ---- words and bytes

word_fits : (c : TextConstant) → ConstantFits c → constant_word c < 2 ^ 32
word_fits (plus n) h = omega arith
word_fits (minus n) h = omega arith

pub bits_small : (n : ℕ) (ms : List ℕ) → bits_below n ms < 2 ^ n
unfolding bits_below
bits_small zero ms = omega arith
bits_small (suc n) ms =
    by_test (λ k. bits_below n ms + k < 2 ^ suc n) (among_players n ms) (λ e. omega (arith, bits_small n ms)) (λ e. omega (arith, bits_small n ms))

rights_fit : (m : Option (List ℕ)) → ByteFits (rights_of m)
rights_fit none = tt
rights_fit (some ms) = bits_small 8 ms

-- ---- formulas

-- an expression of nesting at most k whose names are among m
record TermIn (m k : ℕ) (x : Term) : Type 0 where
  pub fits : TermFits k x
  pub known : (v : ℕ → ℕ) → NamesIn m (fill_term v x)

module _ (m : ℕ) (few : m ≤ 64) where
  variable_in : (k i : ℕ) → i < m → TermIn m (suc k) (variable i)
  unfolding fill_term
  variable_in k i h = record { fits = t_variable {i = i} (omega arith); known = λ v. h }

  param_in : (k i : ℕ) → i < 8 → TermIn m (suc k) (param i)
  unfolding fill_term
  param_in k i h = record { fits = t_param h; known = λ v. tt }

  name_in : (k p : ℕ) (f : NameMeaning) → FoundIn m f → Okay (TermIn m (suc k)) (name_term p f)
  name_in k p nothing h = tt
  name_in k p (a_parameter i) h = param_in k i h
  name_in k p (a_behaviour i) h = variable_in k i h
  name_in k p (a_row i n) h = variable_in k i (omega arith)

  cell_in : (k c p q j : ℕ) (f : NameMeaning) → FoundIn m f → Okay (TermIn m (suc k)) (cell_term c p q j f)
  cell_in k c p q j nothing h = tt
  cell_in k c p q j (a_parameter i) h = tt
  cell_in k c p q j (a_behaviour i) h = tt
  cell_in k c p q j (a_row i n) h =
      by_test (Okay (TermIn m (suc k))) (ltb j n)
      (λ e. by_test (Okay (TermIn m (suc k))) (eqb j 0 && eqb n c) (λ d. tt) (λ d. variable_in k (i + j) (omega (arith, ltb-true j n e))))
      (λ e. tt)

  module _ (find : List ℕ → NameMeaning) (finds : (s : List ℕ) → FoundIn m (find s)) (c : ℕ) where
    term_in : (e : Phrase) (k : ℕ) → Proper e → NumbersFit e → phrase_nesting e ≤ k → Okay (TermIn m k) (term_of find c e)
    unfolding term_of Proper NumbersFit phrase_nesting fill_term
    term_in (constant x) zero a f n = absurd (omega arith)
    term_in (constant x) (suc k) a f n = record { fits = t_literal (word_fits x f); known = λ v. tt }
    term_in (named p s) zero a f n = absurd (omega arith)
    term_in (named p s) (suc k) a f n = name_in k p (find s) (finds s)
    term_in (cell p s q j) zero a f n = absurd (omega arith)
    term_in (cell p s q j) (suc k) a f n = cell_in k c p q j (find s) (finds s)
    term_in (negation e) zero a f n = absurd (omega arith)
    term_in (negation e) (suc k) a f n =
        on_okay (TermIn m (suc k)) (TermIn m k) _ (λ x h. record { fits = t_apply1 unary h.fits; known = h.known }) (term_of find c e) (term_in e k a f (omega arith))
    term_in (operation g d e) zero a f n = absurd (omega arith)
    term_in (operation g d e) (suc k) a f n =
        let l = deeper_left (phrase_nesting d) (phrase_nesting e) in
        let r = deeper_right (phrase_nesting d) (phrase_nesting e) in
        on_okay (TermIn m (suc k)) (TermIn m k) _ (λ x h.
        on_okay (TermIn m (suc k)) (TermIn m k) _ (λ y i.
        record { fits = t_apply2 a.0 h.fits i.fits; known = λ v. (h.known v, i.known v) })
        (term_of find c e) (term_in e k a.2 f.1 (omega arith))) (term_of find c d) (term_in d k a.1 f.0 (omega arith))
    term_in (choice b d e) zero a f n = absurd (omega arith)
    term_in (choice b d e) (suc k) a f n =
        let l = deeper_left (phrase_nesting b) (phrase_nesting d) in
        let r = deeper_right (phrase_nesting b) (phrase_nesting d) in
        let o = deeper_left (deeper (phrase_nesting b) (phrase_nesting d)) (phrase_nesting e) in
        let q = deeper_right (deeper (phrase_nesting b) (phrase_nesting d)) (phrase_nesting e) in
        on_okay (TermIn m (suc k)) (TermIn m k) _ (λ x h.
        on_okay (TermIn m (suc k)) (TermIn m k) _ (λ y i.
        on_okay (TermIn m (suc k)) (TermIn m k) _ (λ z j.
        record { fits = t_apply3 ternary h.fits i.fits j.fits; known = λ v. (h.known v, i.known v, j.known v) })
        (term_of find c e) (term_in e k a.2 f.2 (omega arith)))
        (term_of find c d) (term_in d k a.1 f.1 (omega arith))) (term_of find c b) (term_in b k a.0 f.0 (omega arith))

-- ---- handlers

-- handlers whose events are among the first n, and whose names are among m
record ClausesIn (m n : ℕ) (cs : List Clause) : Type 0 where
  pub fits : ClausesFit n cs
  pub known : (v : ℕ → ℕ) → All (HandlerNamesIn m) (fill_clauses v cs)

module _ (es : List TextEvent) (find : List ℕ → NameMeaning) (c : ℕ) where
  -- none of these is for the event s, which has a handler already
  none_for : (s : List ℕ) → event_named es s < length es → (ns : List (List ℕ)) → among s ns ≡ true → (hs : List Reaction)
      → FitInTurn (ReactionFits (after_all with_event [] es)) with_reaction ns hs → Okay (NoClauseFor (event_named es s)) (clauses_of es find c hs)
  unfolding clauses_of among
  none_for s h ns a [] f = tt
  none_for s h ns a (on t φ e ∷ hs) f =
      on_okay N (λ x. Unit {0}) _ (λ x u.
      on_okay N N _ (λ cs g.
      ((λ q. let p : s ≡ t = event_own es s t h q in false≢true (sym f.0.0 ∙ rw (← p) a)), g))
      (clauses_of es find c hs) (none_for s h (t ∷ ns) (by_test (λ b. b ≡ true) (same s t) (λ d. refl) (λ d. a)) hs f.1))
      (term_of find c e) (nothing_of (term_of find c e))
    where
      N : List Clause → Type 0
      N = NoClauseFor (event_named es s)

      nothing_of : (r : OrFault Term) → Okay (λ x. Unit {0}) r
      nothing_of (fault k p) = tt
      nothing_of (fine x) = tt

  module _ (m : ℕ) (few : m ≤ 64) (finds : (s : List ℕ) → FoundIn m (find s)) where
    abbrev C : List Clause → Type 0
    C = ClausesIn m (length es)

    clauses_in : (ns : List (List ℕ)) (hs : List Reaction) → All ProperReaction hs → FitInTurn (ReactionFits (after_all with_event [] es)) with_reaction ns hs
        → Okay C (clauses_of es find c hs)
    unfolding clauses_of fill_clauses same among
    clauses_in ns [] a f = record { fits = tt; known = λ v. tt }
    clauses_in ns (on s φ e ∷ hs) a f =
        let w = event_within s es f.0.1 in
        on_okay C (TermIn m 16) _ (λ x h.
        on_okay C (λ cs. C cs × NoClauseFor (event_named es s) cs) _
        (λ cs g. record { fits = (w, h.fits, g.1, g.0.fits); known = λ v. (h.known v, g.0.known v) })
        (clauses_of es find c hs)
        (both_okay C (NoClauseFor (event_named es s)) (clauses_of es find c hs) (clauses_in (s ∷ ns) hs a.1 f.1)
        (none_for s w (s ∷ ns) (rw (same_self s)) hs f.1)))
        (term_of find c e) (term_in m few find finds c e 16 a.0 f.0.2.numbers f.0.2.nested)

-- ---- behaviours

record ItemIn (m n k : ℕ) (x : Item) : Type 0 where
  pub fits : ItemFits n x
  pub known : (v : ℕ → ℕ) → BehaviourNamesIn m (fill_item v x)
  pub many : cells x ≡ k

record EntriesIn (m n k : ℕ) (xs : List Entry) : Type 0 where
  pub fits : All (EntryFits n) xs
  pub known : (v : ℕ → ℕ) → All (BehaviourNamesIn m) (fill_entries v xs)
  pub many : cell_count xs ≡ k

module _ (es : List TextEvent) (find : List ℕ → NameMeaning) (m : ℕ) (few : m ≤ 64) (finds : (s : List ℕ) → FoundIn m (find s)) where
  item_in : (b : Body) → ProperBody b → BodyFits (after_all with_event [] es) b → Okay (ItemIn m (length es) (body_cells b)) (item_of es find b)
  item_in (passive e) a f =
      on_okay (ItemIn m (length es) 1) (TermIn m 16) _ (λ x h. record { fits = h.fits; known = h.known; many = refl })
      (term_of find 0 e) (term_in m few find finds 0 e 16 a f.numbers f.nested)
  item_in (active v hs) a f =
      on_okay (ItemIn m (length es) 1) (ClausesIn m (length es)) _ (λ cs h. record { fits = (word_fits v f.0, h.fits); known = h.known; many = refl })
      (clauses_of es find 0 hs) (clauses_in es find 0 m few finds [] hs a f.1)
  item_in (row n v hs) a f =
      on_okay (ItemIn m (length es) n) (ClausesIn m (length es)) _
      (λ cs h. record { fits = (f.0, f.1, word_fits v f.2, h.fits); known = h.known; many = refl })
      (clauses_of es find n hs) (clauses_in es find n m few finds [] hs a f.3)

  entries_in : (ns : List (List ℕ)) (i : ℕ) (bs : List TextBehaviour) → All ProperBehaviour bs → FitInTurn (TextBehaviourFits (after_all with_event [] es)) with_behaviour (taken ns i) bs
      → Okay (EntriesIn m (length es) (total bs)) (entries_of es find bs)
  unfolding entries_of total cell_count fill_entries
  entries_in ns i [] a f = record { fits = tt; known = λ v. tt; many = refl }
  entries_in ns i (behaviour s b r ∷ bs) a f =
      on_okay E (ItemIn m (length es) (body_cells b)) _ (λ x h.
      on_okay E (EntriesIn m (length es) (total bs)) _ (λ xs g.
      record { fits = ((h.fits, rights_fit r), g.fits); known = λ v. (h.known v, g.known v); many = rw (h.many, g.many) })
      (entries_of es find bs) (entries_in (s ∷ ns) (i + body_cells b) bs a.1 f.1)) (item_of es find b) (item_in b a.0 f.0.2)
    where
      E : List Entry → Type 0
      E = EntriesIn m (length es) (body_cells b + total bs)

-- ---- the sheet

signals_fit : (ns : List (List ℕ)) (es : List TextEvent) → FitInTurn EventFits with_event ns es → All SignalFits (map signal_of es)
signals_fit ns [] f = tt
signals_fit ns (event s n m ∷ es) f = ((f.0.2, rights_fit m), signals_fit (s ∷ ns) es f.1)

-- within 01's limits where it is not too long, and every name known
pub record Sound (s : Sheet) : Type 0 where
  pub fits : length (encode s) ≤ 8192 → SheetFits s
  pub known : (v : ℕ → ℕ) → Known (fill v s)

sheet_sound : (es : List TextEvent) (m : ℕ) (xs : List Entry) → FitInTurn EventFits with_event [] es → m ≤ 64 → EntriesIn m (length es) m xs
    → Sound (sheet (map signal_of es) xs)
sheet_sound es m xs f few h = record { fits = fits; known = λ v. names_known_law v s (subst (λ k. All (BehaviourNamesIn k) (fill_entries v xs)) (sym (sized v)) (h.known v)) }
  where
    s : Sheet
    s = sheet (map signal_of es) xs

    fits : length (encode s) ≤ 8192 → SheetFits s
    fits short = record {
      few_events = omega (arith, length-map es signal_of, event_count_law [] es (omega arith) f);
      few_behaviours = omega (arith, h.many);
      scale = signals_fit [] es f;
      each = subst (λ n. All (EntryFits n) xs) (sym (length-map es signal_of)) h.fits;
      few_bytes = short;
    }

    sized : (v : ℕ → ℕ) → size (fill v s) ≡ m
    sized v = length_fill v (rows_out s).entries ∙ (length_out xs xs ∙ h.many)

pub means_sound : {bytes : List ℕ} {x : Text} → TextSays bytes x → TextFits x → Okay Sound (sheet_of x)
unfolding sheet_of
means_sound (says t (a_text {ps = ps} {es} {bs} d e g)) f =
    let few : total bs ≤ 64 = omega (arith, behaviour_count_law (after_all with_event [] es) (after_all with_parameter [] ps) 0 bs (omega arith) f.2) in
    on_okay Sound (EntriesIn (total bs) (length es) (total bs)) _ (λ xs h. sheet_sound es (total bs) xs f.1 few h)
    (entries_of es (meaning_of_name 0 ps bs) bs)
    (entries_in es (meaning_of_name 0 ps bs) (total bs) few (found_in (after_all with_event [] es) ps bs f.0 f.2) (after_all with_parameter [] ps) 0 bs (behaviours_proper g) f.2)

pub sheet_of_text : {bytes : List ℕ} {x : Text} {s : Sheet} → TextSays bytes x → TextFits x → sheet_of x ≡ fine s → Sound s
sheet_of_text a f e = rw e at (means_sound a f)
