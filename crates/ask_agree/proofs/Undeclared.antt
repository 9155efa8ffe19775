-- An event that is not declared writes and reads nothing: so where all declared events of unequal rank are independent,
-- any two events are.
use Rattle.lib_base.proofs.Prelude.{ℕ, ◌≤◌, ◌≡◌, refl, ◌∙◌, sym, ap, false, false≢true, by_cases, List, [], ◌∷◌, dec_lt}
use Rattle.lib_base.proofs.Prelude.{ne_eqb, arith}
use Rattle.lib_base.specs.Basics.{All}
use Rattle.lib_base.proofs.Tools.{all_at_or}
use Rattle.spec_language.specs.Syntax.{Handler, handler, Behaviour, passive, active, Program}
use Rattle.spec_language.specs.Dependence.{keeps, events, handled, respond, behaviour_at, written, writes, Named, in_immediate, in_later, through, Independent}
use Rattle.spec_language.specs.Fits.{HandlersFit, BehaviourFits}
use Rattle.spec_language.proofs.Laws.{handled_there}
use Rattle.ask_agree.specs.Claims.{Unequal, AllIndependent}

no_handler : (n e : ℕ) → n ≤ e → (hs : List Handler) → HandlersFit n hs → handled e hs ≡ keeps
unfolding handled
no_handler n e b [] h = refl
no_handler n e b (handler f φ x ∷ hs) h = handled_there e f φ x hs (ne_eqb e f (λ q. omega (arith, h.0))) ∙ no_handler n e b hs h.3

unwritten : (n e : ℕ) → n ≤ e → (b : Behaviour) → BehaviourFits n b → written (respond e b) ≡ false
unwritten n e h (passive x) f = refl
unwritten n e h (active s hs) f = ap written (no_handler n e h hs f.1)

module _ (p : Program) (each : All (BehaviourFits (events p)) p.behaviours) (e : ℕ) (past : events p ≤ e) where
  writes_none : (i : ℕ) → writes p e i ≡ false
  writes_none i = unwritten (events p) e past (behaviour_at p i) (all_at_or (BehaviourFits (events p)) p.behaviours i (active 0 []) each (omega arith, tt))

  names_none : {j : ℕ} → Named p e j → ⊥
  names_none (in_immediate i q m) = false≢true (sym (writes_none i) ∙ ap written q)
  names_none (in_later i q m) = false≢true (sym (writes_none i) ∙ ap written q)
  names_none (through m q h) = names_none m

  apart_from : (f : ℕ) → Independent p e f
  apart_from f = (λ i w. absurd (false≢true (sym (writes_none i) ∙ w)), λ i w. ((λ r. names_none r.0), writes_none i))

pub any_two : (p : Program) → All (BehaviourFits (events p)) p.behaviours → AllIndependent p → (e f : ℕ) → Unequal p e f → Independent p e f
any_two p each h e f u =
    by_cases (dec_lt e (events p))
    (λ a. by_cases (dec_lt f (events p)) (λ b. h e f a b u) (λ b. let i = apart_from p each f (omega arith) e in (i.1, i.0)))
    (λ a. apart_from p each e (omega arith) f)
