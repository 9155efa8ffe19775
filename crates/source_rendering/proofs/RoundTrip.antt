-- "describe's text is read by assemble to the very bytes": the text written out is scanned and read again (`Lexes`,
-- `Prints`, `Alike`), means the sheet (`Described`), is within the limits (`DescribedFits`) and short enough
-- (`Lengths`). What is read differs from what was written in its places alone, which change neither limits nor meaning.
use Rattle.lib_base.proofs.Prelude.{ℕ, ◌+◌, ◌≡◌, refl, ◌∙◌, sym, ap, subst, List, [], ◌∷◌, map, length, arith}
use Rattle.lib_base.specs.Basics.{All}
use Rattle.spec_language.specs.Dependence.{size}
use Rattle.spec_language.specs.Sheet.{Sheet, cell_count, rows_out, fill_entries, fill}
use Rattle.spec_language.specs.Grammar.{SheetFits}
use Rattle.spec_language.specs.Accepted.{BehaviourNamesIn, Known}
use Rattle.spec_language.proofs.RowLaws.{length_out}
use Rattle.spec_language.proofs.RowNames.{names_sent}
use Rattle.spec_language.proofs.SheetLaws.{length_fill}
use Rattle.source_language.specs.Text.{Phrase, constant, named, cell, negation, operation, choice, Reaction, on, Body, passive, active, row, Parameter, parameter, TextEvent, event, TextBehaviour, behaviour, Text, text}
use Rattle.source_language.specs.Faults.{OrFault, fault, fine}
use Rattle.source_language.specs.Grammar.{says}
use Rattle.source_language.specs.Limits.{NumbersFit, PhraseFits, FitInTurn, after_all, with_parameter, with_event, ReactionFits, with_reaction, body_cells, BodyFits, taken, TextBehaviourFits, with_behaviour, TextFits}
use Rattle.source_language.specs.Meaning.{sheet_of}
use Rattle.source_language.specs.Renaming.{phrase_as, reactions_as, body_as, parameter_as, event_as}
use Rattle.source_language.specs.Moved.{moved_by}
use Rattle.source_rendering.specs.Describe.{parameters_from, described_events, described_behaviours, text_of, described}
use Rattle.spec_language.specs.Sheet.{params_of_entries}
use Rattle.source_language.specs.Answer.{TextMeans}
use Rattle.source_language.proofs.Renamed.{nesting_as, names_do_not_matter, text_as_law, body_cells_law}
use Rattle.source_rendering.proofs.Alike.{same_name, no_place, bare, bare_reactions, bare_behaviour, bare_text, text_again}
use Rattle.source_rendering.proofs.Lexes.{lexes}
use Rattle.source_rendering.proofs.Prints.{prints_text, text_ended}
use Rattle.source_rendering.proofs.Described.{means_back}
use Rattle.source_rendering.proofs.DescribedFits.{described_fits, described_parameters, described_events_law, described_behaviours_law}
use Rattle.source_rendering.proofs.Lengths.{described_short}

-- ---- places change nothing

own : (s t : List ℕ) → s ≡ t → s ≡ t
own s t e = e

numbers_back : (e : Phrase) → NumbersFit (bare e) → NumbersFit e
unfolding NumbersFit phrase_as
numbers_back (constant c) n = n
numbers_back (named p s) n = n
numbers_back (cell p s q k) n = n
numbers_back (negation a) n = numbers_back a n
numbers_back (operation f a b) n = (numbers_back a n.0, numbers_back b n.1)
numbers_back (choice a b c) n = (numbers_back a n.0, numbers_back b n.1, numbers_back c n.2)

phrase_back : (e : Phrase) → PhraseFits (bare e) → PhraseFits e
phrase_back e h = record { numbers = numbers_back e h.numbers; nested = rw (← nesting_as same_name same_name no_place own own e) h.nested }

reactions_back : (es ns : List (List ℕ)) (hs : List Reaction) → FitInTurn (ReactionFits es) with_reaction ns (bare_reactions hs) → FitInTurn (ReactionFits es) with_reaction ns hs
unfolding reactions_as
reactions_back es ns [] f = tt
reactions_back es ns (on s φ e ∷ hs) f = ((f.0.0, f.0.1, phrase_back e f.0.2), reactions_back es (s ∷ ns) hs f.1)

body_back : (es : List (List ℕ)) (b : Body) → BodyFits es (body_as same_name same_name no_place b) → BodyFits es b
body_back es (passive e) f = phrase_back e f
body_back es (active c hs) f = (f.0, reactions_back es [] hs f.1)
body_back es (row n c hs) f = (f.0, f.1, f.2, reactions_back es [] hs f.3)

behaviours_back : (es ns : List (List ℕ)) (i : ℕ) (bs : List TextBehaviour) → FitInTurn (TextBehaviourFits es) with_behaviour (taken ns i) (map bare_behaviour bs)
    → FitInTurn (TextBehaviourFits es) with_behaviour (taken ns i) bs
behaviours_back es ns i [] f = tt
behaviours_back es ns i (behaviour s b m ∷ bs) f =
    let g = rw (body_cells_law same_name same_name no_place own own b) at f in
    ((g.0.0, g.0.1, body_back es b g.0.2, g.0.3), behaviours_back es (s ∷ ns) (i + body_cells b) bs g.1)

parameters_same : (ps : List Parameter) → map (parameter_as same_name same_name no_place) ps ≡ ps
parameters_same [] = refl
parameters_same (parameter s d ∷ ps) = rw (parameters_same ps)

events_same : (es : List TextEvent) → map (event_as same_name same_name no_place) es ≡ es
events_same [] = refl
events_same (event s n m ∷ es) = rw (events_same es)

text_back : (x : Text) → TextFits (bare_text x) → TextFits x
text_back (text ps es bs) f =
    let g = rw (parameters_same ps, events_same es) at f in
    (g.0, g.1, behaviours_back (after_all with_event [] es) (after_all with_parameter [] ps) 0 bs g.2)

moved_fine : (r : OrFault Sheet) (s : Sheet) → moved_by no_place r ≡ fine s → r ≡ fine s
moved_fine (fault k p) s e = absurd (let q : ◌≡◌ {A = ℕ} 0 1 = cc e in omega arith)
moved_fine (fine x) s e = e

-- what a text says that differs from x in its places alone
same_sheet : (x y : Text) (s : Sheet) → bare_text y ≡ bare_text (bare_text x) → sheet_of x ≡ fine s → sheet_of y ≡ fine s
same_sheet x y s e h =
    let n = names_do_not_matter same_name same_name no_place own own in
    moved_fine (sheet_of y) s (sym (n y) ∙ (ap sheet_of e ∙ (n (bare_text x) ∙ (ap (moved_by no_place) (n x) ∙ rw h))))

same_limits : (x y : Text) → bare_text y ≡ bare_text (bare_text x) → TextFits x → TextFits y
same_limits x y e f =
    let t = text_as_law same_name same_name no_place own own in
    text_back y (subst TextFits (sym e) (t (bare_text x) (t x f)))

-- ---- there and back

module _ (v : ℕ → ℕ) (s : Sheet) (f : SheetFits s) (k : Known (fill v s)) where
  entries_known : All (BehaviourNamesIn (cell_count s.entries)) (fill_entries v s.entries)
  entries_known =
      let e : size (fill v s) ≡ cell_count s.entries = length_fill v (rows_out s).entries ∙ length_out s.entries s.entries in
      subst (λ n. All (BehaviourNamesIn n) (fill_entries v s.entries)) e ((names_sent v s f).1 k)

  pub round_trip : TextMeans (described s) s
  unfolding described
  round_trip =
      let n = entries_known in
      let g = described_behaviours_law v s f n in
      let ps = parameters_from (params_of_entries s.entries) 0 in
      let es = described_events 0 s.signals in
      let bs = described_behaviours s.entries 0 s.entries in
      let l = lexes (length (described s)) (text_ended ps es bs (described_parameters v s f n) (described_events_law v s f n) g.0 g.1) in
      let r = text_again (prints_text ps es bs g.0) l.1.1 in
      record {
        reading = r.read;
        long_enough = described_short v s f n;
        says_so = says l.1.0 r.is;
        fits = same_limits (text_of s) r.read r.same (described_fits v s f n);
        resolved = same_sheet (text_of s) r.read s r.same (means_back v s f.scale f.each n);
      }
