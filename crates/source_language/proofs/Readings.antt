-- The reader gives what the grammar finds in a text exactly where it finds something within the limits. From the
-- scanner (`Scans`) and the productions (`Declarations`).
use Rattle.lib_base.proofs.Prelude.{ℕ, ◌≡◌, refl, subst, List, [], ◌∷◌, length, eqb, ne_eqb, eqb-true, arith}
use Rattle.lib_base.proofs.Tools.{by_test}
use Rattle.source_language.specs.Tokens.{SheetToken, number, name, sign, param_word, event_keyword, passive_word, end_sign}
use Rattle.source_language.specs.Text.{Text, text}
use Rattle.source_language.specs.Faults.{OrFault, fault, fine}
use Rattle.source_language.specs.Grammar.{Many, IsParameter, IsEvent, IsBehaviour, IsText, a_text, TextSays, says}
use Rattle.source_language.specs.Limits.{FitInTurn, after_all, ParameterFits, with_parameter, EventFits, with_event, taken, TextBehaviourFits, with_behaviour, TextFits}
use Rattle.source_language.specs.Scanner.{scan_text}
use Rattle.source_language.specs.Reader.{Phrased, bad, got, sign_at, many_of, parameter_of, event_declared, behaviour_declared, behaviour_begins, text_ends, ending, declarations_of, read_text_tokens, read_text}
use Rattle.source_language.proofs.Scans.{scanned, scan_is}
use Rattle.source_language.proofs.Parses.{Of, then_of}
use Rattle.source_language.proofs.Declarations.{many_sound, many_first, many-reads, parameter_sound, parameters_are, event_sound, events_are, behaviour_sound, behaviours_are}

-- ---- what is read is said

abbrev Read : (Text → Type 0) → OrFault Text → Type 0
Read P (fault k p) = Unit {0}
Read P (fine x) = P x

-- a text whose behaviours are followed by us
Before : List SheetToken → Text → List SheetToken → Type 0
Before ts (text ps es bs) us =
    (vs : List SheetToken) × (ws : List SheetToken) × Many IsParameter ts ps vs × Many IsEvent vs es ws × Many IsBehaviour ws bs us × TextFits (text ps es bs)

Whole : List SheetToken → Text → Type 0
Whole ts x = IsText ts x × TextFits x

before_whole : (ts : List SheetToken) (x : Text) (p c : ℕ) → c ≡ end_sign → Before ts x (sign p c ∷ []) → Whole ts x
unfolding Before Whole
before_whole ts (text ps es bs) p c e h =
    let d : Many IsBehaviour h.1 bs (sign p end_sign ∷ []) = subst (λ c. Many IsBehaviour h.1 bs (sign p c ∷ [])) e h.4 in
    (a_text h.2 h.3 d, h.5)

wholly_sound : (ts : List SheetToken) (x : Text) (us : List SheetToken) → Before ts x us → Read (Whole ts) (text_ends x us)
wholly_sound ts x [] h = tt
wholly_sound ts x (number p n ∷ []) h = tt
wholly_sound ts x (name p s ∷ []) h = tt
wholly_sound ts x (sign p c ∷ []) h =
    by_test (Read (Whole ts)) (eqb c end_sign) (λ e. before_whole ts x p c (eqb-true c end_sign e) h) (λ e. tt)
wholly_sound ts x (t ∷ u ∷ us) h = tt

ending_sound : (ts : List SheetToken) (g : Phrased Text) → Of (Before ts) g → Read (Whole ts) (ending g)
ending_sound ts (bad k p) h = tt
ending_sound ts (got x us) h = wholly_sound ts x us h

declarations_sound : (ts : List SheetToken) → Of (Before ts) (declarations_of ts)
unfolding declarations_of Before
declarations_sound ts =
    then_of (Before ts) (λ ps us. Many IsParameter ts ps us × FitInTurn ParameterFits with_parameter [] ps) _ (λ ps us f.
    then_of (Before ts) (λ es vs. Many IsEvent us es vs × FitInTurn EventFits with_event [] es) _ (λ es vs g.
    then_of (Before ts)
    (λ bs ws. Many IsBehaviour vs bs ws × FitInTurn (TextBehaviourFits (after_all with_event [] es)) with_behaviour (taken (after_all with_parameter [] ps) 0) bs) _
    (λ bs ws h. (us, vs, f.0, g.0, h.0, (f.1, g.1, h.1)))
    (many_of behaviour_begins (behaviour_declared (after_all with_event [] es)) with_behaviour (length vs) (taken (after_all with_parameter [] ps) 0) vs)
    (many_sound behaviour_begins (behaviour_declared (after_all with_event [] es)) with_behaviour IsBehaviour (TextBehaviourFits (after_all with_event [] es))
    (behaviour_sound (after_all with_event [] es)) (length vs) (taken (after_all with_parameter [] ps) 0) vs))
    (many_of (λ c. eqb c event_keyword) event_declared with_event (length us) [] us)
    (many_sound (λ c. eqb c event_keyword) event_declared with_event IsEvent EventFits event_sound (length us) [] us))
    (many_of (λ c. eqb c param_word) parameter_of with_parameter (length ts) [] ts)
    (many_sound (λ c. eqb c param_word) parameter_of with_parameter IsParameter ParameterFits parameter_sound (length ts) [] ts)

tokens_sound : (ts : List SheetToken) → Read (Whole ts) (read_text_tokens ts)
tokens_sound ts = ending_sound ts (declarations_of ts) (declarations_sound ts)

-- ---- what is said is read

tokens_read : {ts : List SheetToken} {x : Text} → IsText ts x → TextFits x → read_text_tokens ts ≡ fine x
unfolding declarations_of behaviour_begins
tokens_read {ts} (a_text {p} {us = us} {vs} {ps} {es} {bs} d e g) f =
    let ns = after_all with_parameter [] ps in
    let ms = after_all with_event [] es in
    let z = many_first behaviour_begins (behaviour_declared ms) with_behaviour IsBehaviour (TextBehaviourFits ms) passive_word (behaviours_are ms) g (omega arith) in
    let y = many_first (λ c. eqb c event_keyword) event_declared with_event IsEvent EventFits event_keyword events_are e (omega arith) in
    let c = many-reads behaviour_begins (behaviour_declared ms) with_behaviour IsBehaviour (TextBehaviourFits ms) passive_word (behaviours_are ms) g (taken ns 0) (length vs) (omega arith) f.2 (omega arith) refl in
    let b = many-reads (λ c. eqb c event_keyword) event_declared with_event IsEvent EventFits event_keyword events_are e [] (length us) (omega arith) f.1 (omega arith) (ne_eqb (sign_at vs) event_keyword (omega arith)) in
    let a = many-reads (λ c. eqb c param_word) parameter_of with_parameter IsParameter ParameterFits param_word parameters_are d [] (length ts) (omega arith) f.0 (omega arith) (ne_eqb (sign_at us) param_word (omega arith)) in
    rw (a, b, c)

-- ---- texts

-- the reader gives what a text says, where that is within the limits
pub text-reads : {bytes : List ℕ} {x : Text} → TextSays bytes x → TextFits x → read_text bytes ≡ fine x
unfolding read_text
text-reads {bytes} (says {ts = ts} t d) f = rw (scan_is bytes ts t) (tokens_read d f)

-- and only that
text_sound : (bytes : List ℕ) → Read (λ x. TextSays bytes x × TextFits x) (read_text bytes)
unfolding read_text Whole
text_sound bytes = go (read_text_tokens (scan_text bytes)) (tokens_sound (scan_text bytes))
  where
    go : (r : OrFault Text) → Read (Whole (scan_text bytes)) r → Read (λ x. TextSays bytes x × TextFits x) r
    go (fault k p) h = tt
    go (fine x) h = (says (scanned bytes) h.0, h.1)

pub text_only : (bytes : List ℕ) (x : Text) → read_text bytes ≡ fine x → TextSays bytes x × TextFits x
text_only bytes x h = rw h at (text_sound bytes)
