-- The names that the entries of a behaviour have, event by event, are all its names, and they are behaviours' of the
-- program: each handler is the one for its event, and names exist.
use Rattle.lib_base.proofs.Prelude.{ℕ, ◌<◌, ◌+◌, ◌≡◌, refl, ◌∙◌, sym, ap, true, false≢true, or-true, by_cases, ⊎_elim}
use Rattle.lib_base.proofs.Prelude.{List, [], ◌∷◌, List·getD-eq-default, eqb, dec_lt, ne_eqb, eq-eqb, arith}
use Rattle.lib_base.specs.Basics.{All}
use Rattle.lib_base.proofs.Tools.{split, or_either, all_at_or, same_answer}
use Rattle.spec_language.specs.Syntax.{Expr, Phase, immediate, later, Handler, handler, Behaviour, passive, active, Program}
use Rattle.spec_language.specs.Dependence.{keeps, size, events, in_phase, handled, respond, behaviour_at, mentions}
use Rattle.spec_language.specs.Fits.{NoneFor, HandlersFit, BehaviourFits}
use Rattle.spec_language.specs.Accepted.{HandlerNamesIn, BehaviourNamesIn, Known}
use Rattle.spec_language.proofs.Laws.{handled_here, handled_there, named_in}
use Rattle.check_graph.specs.Any.{any_below}
use Rattle.check_graph.proofs.Any.{any_none, any_some, any_member}
use Rattle.check_reads.specs.InResponse.{in_response}
use Rattle.ask_leak.specs.Leak.{behaviour_names}
use Rattle.secrecy_model.specs.Sight.{in_handlers, in_behaviour, names}

-- ---- the handlers of an active, event by event

phase_names : (j : ℕ) (φ : Phase) (x : Expr) → in_response j (in_phase φ x) ≡ mentions j x
phase_names j immediate x = refl
phase_names j later x = refl

none_for : (e : ℕ) (hs : List Handler) → NoneFor e hs → handled e hs ≡ keeps
unfolding handled
none_for e [] h = refl
none_for e (handler f φ x ∷ hs) h = handled_there e f φ x hs (ne_eqb e f h.0) ∙ none_for e hs h.1

entry_says : (j e : ℕ) (hs : List Handler) → in_response j (handled e hs) ≡ true → in_handlers j hs ≡ true
unfolding in_handlers handled
entry_says j e [] h = absurd (false≢true h)
entry_says j e (handler f φ x ∷ hs) h =
    split (eqb e f)
    (λ t. let q : mentions j x ≡ true = sym (ap (in_response j) (handled_here e f φ x hs t) ∙ phase_names j φ x) ∙ h in rw q)
    (λ t. let q = entry_says j e hs (sym (ap (in_response j) (handled_there e f φ x hs t)) ∙ h) in rw q (or-true (mentions j x)))

handler_says : (n j : ℕ) (hs : List Handler) → HandlersFit n hs → in_handlers j hs ≡ true → (e : ℕ) × (e < n) × (in_response j (handled e hs) ≡ true)
unfolding in_handlers
handler_says n j [] f h = absurd (false≢true h)
handler_says n j (handler g φ x ∷ hs) f h =
    ⊎_elim
    (λ t. (g, f.0, ap (in_response j) (handled_here g g φ x hs (eq-eqb g g refl)) ∙ phase_names j φ x ∙ t))
    (λ t. let r = handler_says n j hs f.3 t in
    (r.0, r.1, ap (in_response j) (handled_there r.0 g φ x hs (ne_eqb r.0 g (λ q. false≢true (sym (ap (in_response j) (ap (λ (k : ℕ). handled k hs) q ∙ none_for g hs f.2)) ∙ r.2)))) ∙ r.2))
    (or_either (mentions j x) (in_handlers j hs) h)

behaviour_names_law : (n j : ℕ) (b : Behaviour) → BehaviourFits n b → any_below (n + 1) (λ e. in_response j (respond e b)) ≡ in_behaviour j b
behaviour_names_law n j (passive x) f =
    split (mentions j x)
    (λ t. any_some (n + 1) (λ e. mentions j x) 0 (omega arith) t ∙ sym t)
    (λ t. any_none (n + 1) (λ e. mentions j x) (λ e h. t) ∙ sym t)
behaviour_names_law n j (active s hs) f =
    same_answer (any_below (n + 1) (λ e. in_response j (handled e hs))) (in_handlers j hs)
    (λ h. let r = any_member (n + 1) (λ e. in_response j (handled e hs)) h in entry_says j r.0 hs r.2)
    (λ h. let r = handler_says n j hs f.1 h in any_some (n + 1) (λ e. in_response j (handled e hs)) r.0 (omega (arith, r.1)) r.2)

-- ---- names of an accepted program

handlers_in : (n j : ℕ) (hs : List Handler) → All (HandlerNamesIn n) hs → in_handlers j hs ≡ true → j < n
unfolding in_handlers
handlers_in n j [] k h = absurd (false≢true h)
handlers_in n j (handler e φ x ∷ hs) k h =
    ⊎_elim (λ t. named_in n j x k.0 t) (λ t. handlers_in n j hs k.1 t) (or_either (mentions j x) (in_handlers j hs) h)

names_in : (n j : ℕ) (b : Behaviour) → BehaviourNamesIn n b → in_behaviour j b ≡ true → j < n
names_in n j (passive x) k h = named_in n j x k h
names_in n j (active s hs) k h = handlers_in n j hs k h

module _ (p : Program) (each : All (BehaviourFits (events p)) p.behaviours) (known : Known p) where
  pub names_are : (i j : ℕ) → behaviour_names p i j ≡ names p i j
  unfolding behaviour_names
  names_are i j =
      behaviour_names_law (events p) j (behaviour_at p i)
      (all_at_or (BehaviourFits (events p)) p.behaviours i (active 0 []) each (omega arith, tt))

  pub named_within : (i j : ℕ) → names p i j ≡ true → (i < size p) × (j < size p)
  unfolding in_handlers
  named_within i j h = (
    by_cases (dec_lt i (size p)) (λ s. s)
        (λ s. absurd (false≢true (sym (ap (in_behaviour j) (List·getD-eq-default p.behaviours (active 0 []) (omega arith))) ∙ h))),
    names_in (size p) j (behaviour_at p i) (all_at_or (BehaviourNamesIn (size p)) p.behaviours i (active 0 []) known tt) h,
  )
