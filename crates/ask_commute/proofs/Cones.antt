-- What a behaviour depends on depends on nothing else: a name in what a member does on an event is one of its names. So
-- where no two events of unequal priority meet in any cone, they commute.
use Rattle.lib_base.proofs.Prelude.{ℕ, ◌<◌, ◌≡◌, refl, ◌∙◌, sym, subst, true, false≢true, ◌≢◌, inr, inl, List, [], ◌∷◌}
use Rattle.lib_base.proofs.Prelude.{length, get_or, ext_get_or, eqb, arith}
use Rattle.lib_base.proofs.Tools.{by_elim}
use Rattle.spec_language.specs.Syntax.{Expr, Phase, immediate, later, Handler, handler, Behaviour, passive, active, Program}
use Rattle.spec_language.specs.Dependence.{Response, in_phase, handled, respond, size, events, behaviour_at, mentions, one, more}
use Rattle.spec_language.specs.Valid.{Valid}
use Rattle.spec_semantics.specs.Event.{event}
use Rattle.spec_semantics.proofs.Solution.{or_first, or_second, event_length}
use Rattle.secrecy_model.specs.Sight.{in_handlers, in_behaviour, names}
use Rattle.check_reads.specs.InResponse.{in_response}
use Rattle.ask_commute.specs.Meets.{Cone}
use Rattle.ask_commute.proofs.OnSet.{Closed}
use Rattle.ask_commute.proofs.CommuteOn.{Clear, commute_on}

phase_names : (j : ℕ) (φ : Phase) (x : Expr) → in_response j (in_phase φ x) ≡ true → mentions j x ≡ true
phase_names j immediate x h = h
phase_names j later x h = h

handled_names : (e j : ℕ) (hs : List Handler) → in_response j (handled e hs) ≡ true → in_handlers j hs ≡ true
unfolding handled in_handlers
handled_names e j [] = λ h. absurd (false≢true h)
handled_names e j (handler f φ x ∷ hs) =
    by_elim (λ (r : Response). in_response j r ≡ true → in_handlers j (handler f φ x ∷ hs) ≡ true) (eqb e f)
    (λ t h. or_first (mentions j x) (in_handlers j hs) (phase_names j φ x h))
    (λ t h. or_second (mentions j x) (in_handlers j hs) (handled_names e j hs h))

respond_names : (e j : ℕ) (b : Behaviour) → in_response j (respond e b) ≡ true → in_behaviour j b ≡ true
respond_names e j (passive x) h = h
respond_names e j (active s hs) h = handled_names e j hs h

cone_on_law : (p : Program) (b i j : ℕ) → Cone p b i → names p i j ≡ true → Cone p b j
cone_on_law p b i j (inl q) h = inr (one (subst (λ (k : ℕ). names p k j ≡ true) q h))
cone_on_law p b i j (inr r) h = inr (more r h)

pub cone_closed : (p : Program) (b : ℕ) → Closed p (Cone p b)
cone_closed p b e i j m h = cone_on_law p b i j m (respond_names e j (behaviour_at p i) h)

-- no two events of unequal priority meet in the set
abbrev pub Settled : Program → (ℕ → Type 0) → Type 0
Settled p D = (e f : ℕ) → e < events p → f < events p → get_or p.priorities e 0 ≢ get_or p.priorities f 0 → Clear p D e f

-- in no cone: they commute
pub all_commute : (p : Program) → Valid p → ((b : ℕ) → b < size p → Settled p (Cone p b))
    → (e f : ℕ) → e < events p → f < events p → get_or p.priorities e 0 ≢ get_or p.priorities f 0 → (s : List ℕ) → length s ≡ size p
    → event p e (event p f s) ≡ event p f (event p e s)
all_commute p v h e f de df u s n =
    let e_in = event_length p v e (omega arith) s n in
    let f_in = event_length p v f (omega arith) s n in
    let ef : length (event p e (event p f s)) ≡ size p = event_length p v e (omega arith) (event p f s) f_in in
    let fe : length (event p f (event p e s)) ≡ size p = event_length p v f (omega arith) (event p e s) e_in in
    ext_get_or 0 (event p e (event p f s)) (event p f (event p e s)) (ef ∙ sym fe) (λ i b.
    let w : i < size p = omega arith in
    commute_on p v (Cone p i) (cone_closed p i) s n e f (omega arith) (omega arith) (h i w e f de df u) (h i w f e df de (λ q. u (sym q))) i w (inl refl))
