-- The handlers that the rules find are those that the evaluator looks up: with at most one for an event, `handled` is
-- the one. By induction on the list.
use Rattle.lib_base.proofs.Prelude.{ℕ, ◌≤◌, ◌≡◌, refl, ◌∙◌, sym, subst, false, List, [], ◌∷◌, eqb, ne_eqb, eqb-true}
use Rattle.lib_base.proofs.Prelude.{eq-eqb, eqb-false, arith}
use Rattle.lib_base.proofs.Tools.{by_elim, split}
use Rattle.spec_language.specs.Syntax.{Expr, Phase, immediate, later, Handler, handler}
use Rattle.spec_language.specs.Dependence.{Response, follows, takes, defers, keeps, in_phase, handled}
use Rattle.spec_language.specs.Fits.{NoneFor, HandlersFit}
use Rattle.spec_language.proofs.Laws.{handled_here, handled_there}
use Rattle.spec_semantics.specs.Rules.{Handles, here, there}

-- what a response says about handlers
abbrev pub Says : ℕ → List Handler → Response → Type 0
Says e hs (follows x) = ⊥
Says e hs (takes x) = Handles e immediate x hs
Says e hs (defers x) = Handles e later x hs
Says e hs keeps = (φ : Phase) (x : Expr) → Handles e φ x hs → ⊥

none_here : {e : ℕ} {φ : Phase} {d : Expr} {hs : List Handler} → Handles e φ d hs → NoneFor e hs → ⊥
none_here here h = h.0 refl
none_here (there {h = handler f ψ x} k) h = none_here k h.1

-- the handler that the rules find is the one looked up
pub handles_handled : (n : ℕ) {e : ℕ} {φ : Phase} {d : Expr} {hs : List Handler} → Handles e φ d hs → HandlersFit n hs → handled e hs ≡ in_phase φ d
handles_handled n {e} {φ} {d} (here {hs = hs}) h = handled_here e e φ d hs (eq-eqb e e refl)
handles_handled n {e} {φ} {d} (there {h = handler f ψ x} {hs = hs} k) h =
    split (eqb e f) (λ t. absurd (none_here k (subst (λ g. NoneFor g hs) (sym (eqb-true e f t)) h.2)))
    (λ t. handled_there e f ψ x hs t ∙ handles_handled n k h.3)

-- the one looked up is found by the rules
not_there : {e f : ℕ} {φ ψ : Phase} {x y : Expr} {hs : List Handler} → Handles e ψ y (handler f φ x ∷ hs) → eqb e f ≡ false
    → ((χ : Phase) (z : Expr) → Handles e χ z hs → ⊥) → ⊥
not_there {e} here t h = eqb-false e e t refl
not_there {ψ = ψ} {y = y} (there k) t h = h ψ y k

says_there : (e f : ℕ) (φ : Phase) (x : Expr) (hs : List Handler) (r : Response) → eqb e f ≡ false → Says e hs r → Says e (handler f φ x ∷ hs) r
says_there e f φ x hs (follows y) t h = h
says_there e f φ x hs (takes y) t h = there h
says_there e f φ x hs (defers y) t h = there h
says_there e f φ x hs keeps t h = λ ψ y k. not_there k t h

says_here : (e : ℕ) (φ : Phase) (x : Expr) (hs : List Handler) → Says e (handler e φ x ∷ hs) (in_phase φ x)
says_here e immediate x hs = here
says_here e later x hs = here

pub handled_says : (e : ℕ) (hs : List Handler) → Says e hs (handled e hs)
unfolding handled
handled_says e [] = λ φ x k. none_here k tt
handled_says e (handler f φ x ∷ hs) =
    by_elim (Says e (handler f φ x ∷ hs)) (eqb e f)
    (λ t. subst (λ g. Says e (handler g φ x ∷ hs) (in_phase φ x)) (eqb-true e f t) (says_here e φ x hs))
    (λ t. says_there e f φ x hs (handled e hs) t (handled_says e hs))

-- an event that is not declared has no handler
pub undeclared_keeps : (n e : ℕ) (hs : List Handler) → n ≤ e → HandlersFit n hs → handled e hs ≡ keeps
unfolding handled
undeclared_keeps n e [] b h = refl
undeclared_keeps n e (handler f φ x ∷ hs) b h =
    handled_there e f φ x hs (ne_eqb e f (λ t. omega arith)) ∙ undeclared_keeps n e hs b h.3
