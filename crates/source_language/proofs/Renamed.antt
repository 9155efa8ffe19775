-- Names do not matter: a text with other names, different ones staying different, means the same sheet, or has the same
-- fault where its token now stands. By induction on the text; what is found for a name says nothing of the name.
use Rattle.lib_base.proofs.Prelude.{ℕ, ◌+◌, suc, ◌≡◌, refl, ◌∙◌, sym, false≢true, ◌&&◌, List, [], ◌∷◌, map, length-map}
use Rattle.lib_base.proofs.Prelude.{eqb, ltb}
use Rattle.lib_base.proofs.Tools.{split}
use Rattle.source_language.specs.Tokens.{same}
use Rattle.source_language.specs.Text.{Phrase, constant, named, cell, negation, operation, choice, Reaction, on, Body, passive, active, row, Parameter, parameter, TextEvent, event, TextBehaviour, behaviour, Text, text}
use Rattle.source_language.specs.Faults.{OrFault, fault, fine, and_then}
use Rattle.source_language.specs.Limits.{among, phrase_nesting, NumbersFit, PhraseFits, FitInTurn, after_all, ParameterFits, with_parameter, EventFits, with_event, ReactionFits, with_reaction, body_cells, BodyFits, taken, TextBehaviourFits, with_behaviour, TextFits}
use Rattle.source_language.specs.Meaning.{NameMeaning, nothing, a_parameter, a_behaviour, a_row, found_as, behaviour_named, meaning_of_name, event_named, name_term, cell_term, term_of, clauses_of, item_of, entries_of, signal_of, sheet_of}
use Rattle.source_language.specs.Renaming.{KeepsApart, phrase_as, reactions_as, body_as, parameter_as, event_as, behaviour_as, text_as}
use Rattle.source_language.specs.Moved.{moved_by}
use Rattle.source_language.proofs.Scans.{same_is, same_self}

same_as : (f : List ℕ → List ℕ) → KeepsApart f → (s t : List ℕ) → same (f s) (f t) ≡ same s t
same_as f c s t =
    split (same s t) (λ e. let q : s ≡ t = same_is s t e in rw (q, same_self t) (same_self (f t)))
    (λ e. split (same (f s) (f t)) (λ d. absurd (false≢true (sym e ∙ rw (c s t (same_is (f s) (f t) d)) (same_self t)))) (λ d. d ∙ sym e))

-- on past a result, moved or not
moved_on : {A B : Type 0} (g : ℕ → ℕ) (r s : OrFault A) (k l : A → OrFault B) → r ≡ moved_by g s → ((x : A) → k x ≡ moved_by g (l x)) → and_then r k ≡ moved_by g (and_then s l)
moved_on g r (fault n p) k l e h = rw e
moved_on g r (fine x) k l e h = rw e (h x)

module _ (f h : List ℕ → List ℕ) (g : ℕ → ℕ) (c : KeepsApart f) (d : KeepsApart h) where
  pub body_cells_law : (b : Body) → body_cells (body_as f h g b) ≡ body_cells b
  body_cells_law (passive e) = refl
  body_cells_law (active v hs) = refl
  body_cells_law (row n v hs) = refl

  body_found : (i : ℕ) (b : Body) → found_as i (body_as f h g b) ≡ found_as i b
  body_found i (passive e) = refl
  body_found i (active v hs) = refl
  body_found i (row n v hs) = refl

  behaviour_found : (i : ℕ) (bs : List TextBehaviour) (s : List ℕ) → behaviour_named i (map (behaviour_as f h g) bs) (f s) ≡ behaviour_named i bs s
  unfolding behaviour_named
  behaviour_found i [] s = refl
  behaviour_found i (behaviour t b m ∷ bs) s = rw (same_as f c s t, body_found i b, body_cells_law b, behaviour_found (i + body_cells b) bs s)

  parameter_found : (i : ℕ) (ps : List Parameter) (bs : List TextBehaviour) (s : List ℕ)
      → meaning_of_name i (map (parameter_as f h g) ps) (map (behaviour_as f h g) bs) (f s) ≡ meaning_of_name i ps bs s
  unfolding meaning_of_name
  parameter_found i [] bs s = behaviour_found 0 bs s
  parameter_found i (parameter t v ∷ ps) bs s = rw (same_as f c s t, parameter_found (suc i) ps bs s)

  event_found : (es : List TextEvent) (s : List ℕ) → event_named (map (event_as f h g) es) (h s) ≡ event_named es s
  unfolding event_named
  event_found [] s = refl
  event_found (event t n m ∷ es) s = rw (same_as h d s t, event_found es s)

  name_moved : (p : ℕ) (x : NameMeaning) → name_term (g p) x ≡ moved_by g (name_term p x)
  name_moved p nothing = refl
  name_moved p (a_parameter i) = refl
  name_moved p (a_behaviour i) = refl
  name_moved p (a_row i n) = refl

  cell_moved : (k p q j : ℕ) (x : NameMeaning) → cell_term k (g p) (g q) j x ≡ moved_by g (cell_term k p q j x)
  cell_moved k p q j nothing = refl
  cell_moved k p q j (a_parameter i) = refl
  cell_moved k p q j (a_behaviour i) = refl
  cell_moved k p q j (a_row i n) =
      split (ltb j n) (λ e. split (eqb j 0 && eqb n k) (λ a. rw (e, a)) (λ a. rw (e, a))) (λ e. rw e)

  module _ (find fresh : List ℕ → NameMeaning) (finds : (s : List ℕ) → fresh (f s) ≡ find s) where
    term_moved : (k : ℕ) (e : Phrase) → term_of fresh k (phrase_as f h g e) ≡ moved_by g (term_of find k e)
    unfolding term_of phrase_as
    term_moved k (constant v) = refl
    term_moved k (named p s) = rw (finds s) (name_moved p (find s))
    term_moved k (cell p s q j) = rw (finds s) (cell_moved k p q j (find s))
    term_moved k (negation a) = moved_on g (term_of fresh k (phrase_as f h g a)) (term_of find k a) _ _ (term_moved k a) (λ x. refl)
    term_moved k (operation o a b) =
        moved_on g (term_of fresh k (phrase_as f h g a)) (term_of find k a) _ _ (term_moved k a) (λ x.
        moved_on g (term_of fresh k (phrase_as f h g b)) (term_of find k b) _ _ (term_moved k b) (λ y. refl))
    term_moved k (choice a b e) =
        moved_on g (term_of fresh k (phrase_as f h g a)) (term_of find k a) _ _ (term_moved k a) (λ x.
        moved_on g (term_of fresh k (phrase_as f h g b)) (term_of find k b) _ _ (term_moved k b) (λ y.
        moved_on g (term_of fresh k (phrase_as f h g e)) (term_of find k e) _ _ (term_moved k e) (λ z. refl)))

    clauses_moved : (es : List TextEvent) (k : ℕ) (hs : List Reaction)
        → clauses_of (map (event_as f h g) es) fresh k (reactions_as f h g hs) ≡ moved_by g (clauses_of es find k hs)
    unfolding clauses_of reactions_as
    clauses_moved es k [] = refl
    clauses_moved es k (on s φ e ∷ hs) =
        moved_on g (term_of fresh k (phrase_as f h g e)) (term_of find k e) _ _ (term_moved k e) (λ x.
        moved_on g (clauses_of (map (event_as f h g) es) fresh k (reactions_as f h g hs)) (clauses_of es find k hs) _ _ (clauses_moved es k hs)
        (λ cs. rw (event_found es s)))

    item_moved : (es : List TextEvent) (b : Body) → item_of (map (event_as f h g) es) fresh (body_as f h g b) ≡ moved_by g (item_of es find b)
    item_moved es (passive e) = moved_on g (term_of fresh 0 (phrase_as f h g e)) (term_of find 0 e) _ _ (term_moved 0 e) (λ x. refl)
    item_moved es (active v hs) =
        moved_on g (clauses_of (map (event_as f h g) es) fresh 0 (reactions_as f h g hs)) (clauses_of es find 0 hs) _ _ (clauses_moved es 0 hs) (λ cs. refl)
    item_moved es (row n v hs) =
        moved_on g (clauses_of (map (event_as f h g) es) fresh n (reactions_as f h g hs)) (clauses_of es find n hs) _ _ (clauses_moved es n hs) (λ cs. refl)

    entries_moved : (es : List TextEvent) (bs : List TextBehaviour) → entries_of (map (event_as f h g) es) fresh (map (behaviour_as f h g) bs) ≡ moved_by g (entries_of es find bs)
    unfolding entries_of
    entries_moved es [] = refl
    entries_moved es (behaviour s b m ∷ bs) =
        moved_on g (item_of (map (event_as f h g) es) fresh (body_as f h g b)) (item_of es find b) _ _ (item_moved es b) (λ x.
        moved_on g (entries_of (map (event_as f h g) es) fresh (map (behaviour_as f h g) bs)) (entries_of es find bs) _ _ (entries_moved es bs) (λ xs. refl))

  signals_same : (es : List TextEvent) → map signal_of (map (event_as f h g) es) ≡ map signal_of es
  signals_same [] = refl
  signals_same (event s n m ∷ es) = rw (signals_same es)

  pub names_do_not_matter : (x : Text) → sheet_of (text_as f h g x) ≡ moved_by g (sheet_of x)
  unfolding sheet_of
  names_do_not_matter (text ps es bs) =
      moved_on g (entries_of (map (event_as f h g) es) (meaning_of_name 0 (map (parameter_as f h g) ps) (map (behaviour_as f h g) bs)) (map (behaviour_as f h g) bs))
      (entries_of es (meaning_of_name 0 ps bs) bs) _ _
      (entries_moved (meaning_of_name 0 ps bs) (meaning_of_name 0 (map (parameter_as f h g) ps) (map (behaviour_as f h g) bs)) (parameter_found 0 ps bs) es bs)
      (λ xs. rw (signals_same es))

-- ---- and it is within the limits with them

among_as : (f : List ℕ → List ℕ) → KeepsApart f → (s : List ℕ) (ns : List (List ℕ)) → among (f s) (map f ns) ≡ among s ns
unfolding among
among_as f c s [] = refl
among_as f c s (t ∷ ns) = rw (same_as f c s t, among_as f c s ns)

module _ (f h : List ℕ → List ℕ) (g : ℕ → ℕ) (c : KeepsApart f) (d : KeepsApart h) where
  pub nesting_as : (e : Phrase) → phrase_nesting (phrase_as f h g e) ≡ phrase_nesting e
  unfolding phrase_nesting phrase_as
  nesting_as (constant v) = refl
  nesting_as (named p s) = refl
  nesting_as (cell p s q n) = refl
  nesting_as (negation a) = rw (nesting_as a)
  nesting_as (operation k a b) = rw (nesting_as a, nesting_as b)
  nesting_as (choice a b e) = rw (nesting_as a, nesting_as b, nesting_as e)

  numbers_as : (e : Phrase) → NumbersFit e → NumbersFit (phrase_as f h g e)
  unfolding NumbersFit phrase_as
  numbers_as (constant v) n = n
  numbers_as (named p s) n = n
  numbers_as (cell p s q k) n = n
  numbers_as (negation a) n = numbers_as a n
  numbers_as (operation k a b) n = (numbers_as a n.0, numbers_as b n.1)
  numbers_as (choice a b e) n = (numbers_as a n.0, numbers_as b n.1, numbers_as e n.2)

  phrase_as_law : (e : Phrase) → PhraseFits e → PhraseFits (phrase_as f h g e)
  phrase_as_law e p = record { numbers = numbers_as e p.numbers; nested = rw (nesting_as e) p.nested }

  parameters_as : (ns : List (List ℕ)) (ps : List Parameter) → FitInTurn ParameterFits with_parameter ns ps
      → FitInTurn ParameterFits with_parameter (map f ns) (map (parameter_as f h g) ps)
  parameters_as ns [] k = tt
  parameters_as ns (parameter s v ∷ ps) k =
      ((rw (length-map ns f) k.0.0, among_as f c s ns ∙ k.0.1, k.0.2), parameters_as (s ∷ ns) ps k.1)

  events_as : (ns : List (List ℕ)) (es : List TextEvent) → FitInTurn EventFits with_event ns es → FitInTurn EventFits with_event (map h ns) (map (event_as f h g) es)
  events_as ns [] k = tt
  events_as ns (event s n m ∷ es) k =
      ((rw (length-map ns h) k.0.0, among_as h d s ns ∙ k.0.1, k.0.2, k.0.3), events_as (s ∷ ns) es k.1)

  reactions_as_law : (es ns : List (List ℕ)) (hs : List Reaction) → FitInTurn (ReactionFits es) with_reaction ns hs
      → FitInTurn (ReactionFits (map h es)) with_reaction (map h ns) (reactions_as f h g hs)
  unfolding reactions_as
  reactions_as_law es ns [] k = tt
  reactions_as_law es ns (on s φ e ∷ hs) k =
      ((among_as h d s ns ∙ k.0.0, among_as h d s es ∙ k.0.1, phrase_as_law e k.0.2), reactions_as_law es (s ∷ ns) hs k.1)

  body_as_law : (es : List (List ℕ)) (b : Body) → BodyFits es b → BodyFits (map h es) (body_as f h g b)
  body_as_law es (passive e) k = phrase_as_law e k
  body_as_law es (active v hs) k = (k.0, reactions_as_law es [] hs k.1)
  body_as_law es (row n v hs) k = (k.0, k.1, k.2, reactions_as_law es [] hs k.3)

  behaviours_as : (es ns : List (List ℕ)) (i : ℕ) (bs : List TextBehaviour) → FitInTurn (TextBehaviourFits es) with_behaviour (taken ns i) bs
      → FitInTurn (TextBehaviourFits (map h es)) with_behaviour (taken (map f ns) i) (map (behaviour_as f h g) bs)
  behaviours_as es ns i [] k = tt
  behaviours_as es ns i (behaviour s b m ∷ bs) k =
      rw (body_cells_law f h g c d b) ((k.0.0, among_as f c s ns ∙ k.0.1, body_as_law es b k.0.2, k.0.3), behaviours_as es (s ∷ ns) (i + body_cells b) bs k.1)

  parameters_after : (ns : List (List ℕ)) (ps : List Parameter) → after_all with_parameter (map f ns) (map (parameter_as f h g) ps) ≡ map f (after_all with_parameter ns ps)
  unfolding after_all
  parameters_after ns [] = refl
  parameters_after ns (parameter s v ∷ ps) = parameters_after (s ∷ ns) ps

  events_after : (ns : List (List ℕ)) (es : List TextEvent) → after_all with_event (map h ns) (map (event_as f h g) es) ≡ map h (after_all with_event ns es)
  unfolding after_all
  events_after ns [] = refl
  events_after ns (event s n m ∷ es) = events_after (s ∷ ns) es

  pub text_as_law : (x : Text) → TextFits x → TextFits (text_as f h g x)
  text_as_law (text ps es bs) k = (
    parameters_as [] ps k.0,
    events_as [] es k.1,
    rw (parameters_after [] ps, events_after [] es) (behaviours_as (after_all with_event [] es) (after_all with_parameter [] ps) 0 bs k.2),
  )
