-- What the names of a text within the limits stand for: parameters below 8, behaviours and whole rows among those
-- declared, and each event's own number. By induction on the declarations.
use Rattle.lib_base.proofs.Prelude.{ℕ, ◌≤◌, ◌<◌, ◌+◌, suc, ◌≡◌, ◌∙◌, sym, true, false≢true, ◌⊎◌, ⊎_elim, inr, inl, List}
use Rattle.lib_base.proofs.Prelude.{[], ◌∷◌, length, arith}
use Rattle.lib_base.proofs.Tools.{by_test, split}
use Rattle.source_language.specs.Tokens.{same}
use Rattle.source_language.specs.Text.{Body, passive, active, row, Parameter, parameter, TextEvent, event, TextBehaviour, behaviour}
use Rattle.source_language.specs.Limits.{among, FitInTurn, after_all, ParameterFits, with_parameter, EventFits, with_event, body_cells, BodyFits, taken, TextBehaviourFits, with_behaviour}
use Rattle.source_language.specs.Meaning.{NameMeaning, nothing, a_parameter, a_behaviour, a_row, found_as, behaviour_named, meaning_of_name, event_named}
use Rattle.source_language.proofs.Scans.{same_is}

-- ---- counts

pub event_count_law : (ns : List (List ℕ)) (es : List TextEvent) → length ns ≤ 32 → FitInTurn EventFits with_event ns es → length ns + length es ≤ 32
event_count_law ns [] h f = omega arith
event_count_law ns (event s n m ∷ es) h f = omega (arith, event_count_law (s ∷ ns) es (omega (arith, f.0.0)) f.1)

-- how many behaviours are declared, a row's cells among them
unfoldable pub total : List TextBehaviour → ℕ
total [] = 0
total (behaviour s b m ∷ bs) = body_cells b + total bs

pub behaviour_count_law : (es ns : List (List ℕ)) (i : ℕ) (bs : List TextBehaviour) → i ≤ 64 → FitInTurn (TextBehaviourFits es) with_behaviour (taken ns i) bs → i + total bs ≤ 64
unfolding total
behaviour_count_law es ns i [] h f = omega arith
behaviour_count_law es ns i (behaviour s b m ∷ bs) h f = omega (arith, behaviour_count_law es (s ∷ ns) (i + body_cells b) bs f.0.0 f.1)

-- ---- parameters and behaviours

-- what is found lies among m behaviours
abbrev pub FoundIn : ℕ → NameMeaning → Type 0
FoundIn m nothing = Unit {0}
FoundIn m (a_parameter i) = i < 8
FoundIn m (a_behaviour i) = i < m
FoundIn m (a_row i n) = (0 < n) × (i + n ≤ m)

body_in : (es : List (List ℕ)) (i m : ℕ) (b : Body) → BodyFits es b → i + body_cells b ≤ m → FoundIn m (found_as i b)
body_in es i m (passive e) f h = omega arith
body_in es i m (active c hs) f h = omega arith
body_in es i m (row n c hs) f h = (omega (arith, f.0), h)

behaviour_in_law : (es ns : List (List ℕ)) (i m : ℕ) (bs : List TextBehaviour) → FitInTurn (TextBehaviourFits es) with_behaviour (taken ns i) bs → i + total bs ≤ m → (s : List ℕ)
    → FoundIn m (behaviour_named i bs s)
unfolding behaviour_named total
behaviour_in_law es ns i m [] f h s = tt
behaviour_in_law es ns i m (behaviour t b v ∷ bs) f h s =
    by_test (FoundIn m) (same s t) (λ e. body_in es i m b f.0.2 (omega arith))
    (λ e. behaviour_in_law es (t ∷ ns) (i + body_cells b) m bs f.1 (omega arith) s)

parameter_in : (m : ℕ) (bs : List TextBehaviour) (s : List ℕ) → FoundIn m (behaviour_named 0 bs s) → (ns : List (List ℕ)) (ps : List Parameter)
    → FitInTurn ParameterFits with_parameter ns ps → FoundIn m (meaning_of_name (length ns) ps bs s)
unfolding meaning_of_name
parameter_in m bs s h ns [] f = h
parameter_in m bs s h ns (parameter t d ∷ ps) f =
    by_test (FoundIn m) (same s t) (λ e. f.0.0) (λ e. parameter_in m bs s h (t ∷ ns) ps f.1)

pub found_in : (es : List (List ℕ)) (ps : List Parameter) (bs : List TextBehaviour) → FitInTurn ParameterFits with_parameter [] ps
    → FitInTurn (TextBehaviourFits es) with_behaviour (taken (after_all with_parameter [] ps) 0) bs → (s : List ℕ) → FoundIn (total bs) (meaning_of_name 0 ps bs s)
found_in es ps bs f g s =
    parameter_in (total bs) bs s (behaviour_in_law es (after_all with_parameter [] ps) 0 (total bs) bs g (omega arith) s) [] ps f

-- ---- events

event_either : (s : List ℕ) (ns : List (List ℕ)) (es : List TextEvent) → among s (after_all with_event ns es) ≡ true → (among s ns ≡ true) ⊎ (event_named es s < length es)
unfolding after_all event_named among
event_either s ns [] h = inl h
event_either s ns (event t n m ∷ es) h =
    ⊎_elim
    (split (same s t) (λ e _. inr (rw e (omega arith))) (λ e x. inl (rw e at x)))
    (λ x. inr (by_test (λ k. k < suc (length es)) (same s t) (λ e. omega arith) (λ e. omega arith)))
    (event_either s (t ∷ ns) es h)

-- a declared event has a number among them
pub event_within : (s : List ℕ) (es : List TextEvent) → among s (after_all with_event [] es) ≡ true → event_named es s < length es
unfolding among
event_within s es h = ⊎_elim (λ x. absurd (false≢true x)) (λ x. x) (event_either s [] es h)

-- and no other has it
pub event_own : (es : List TextEvent) (s t : List ℕ) → event_named es s < length es → event_named es s ≡ event_named es t → s ≡ t
unfolding event_named
event_own [] s t h e = absurd (omega arith)
event_own (event u n m ∷ es) s t h e =
    split (same s u)
    (λ a. split (same t u) (λ b. same_is s u a ∙ sym (same_is t u b)) (λ b. absurd (zero_suc (rw (a, b) at e))))
    (λ a. split (same t u) (λ b. absurd (zero_suc (sym (rw (a, b) at e)))) (λ b. event_own es s t (less (rw a at h)) (same_suc (rw (a, b) at e))))
  where
    zero_suc : {n : ℕ} → 0 ≡ suc n → ⊥
    zero_suc p = omega arith

    less : {j k : ℕ} → suc j < suc k → j < k
    less p = omega arith

    same_suc : {j k : ℕ} → suc j ≡ suc k → j ≡ k
    same_suc p = omega arith
