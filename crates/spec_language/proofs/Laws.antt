-- Laws of these definitions that several crates use: the list of f of each number below n, the handler looked up, the
-- names and the nesting of a response. By induction.
use Rattle.lib_base.proofs.Prelude.{ℕ, ◌≤◌, ◌<◌, suc, zero, ◌≡◌, refl, ◌∙◌, sym, ap, true, false, ◌||◌, false≢true}
use Rattle.lib_base.proofs.Prelude.{true≢false, not, and-eq-true_iff, by_cases, ⊎_elim, List, [], ◌∷◌, length, get_or}
use Rattle.lib_base.proofs.Prelude.{List·getD-eq-default, ext_get_or, eqb, dec_lt, eqb-true, arith}
use Rattle.lib_base.specs.Basics.{All}
use Rattle.lib_base.proofs.Tools.{by_elim, or_either, all_at_or}
use Rattle.spec_language.specs.Syntax.{Expr, con, name, app1, app2, app3, Phase, immediate, later, Handler, handler, Behaviour, passive, active, Program}
use Rattle.spec_language.specs.Dependence.{Response, follows, takes, defers, keeps, in_phase, handled, respond, size, events, behaviour_at, response, mentions, needs, depends_on}
use Rattle.spec_language.specs.Order.{up_to}
use Rattle.spec_language.specs.Fits.{Nested, HandlersFit, BehaviourFits}
use Rattle.spec_language.specs.Accepted.{NamesIn, HandlerNamesIn, BehaviourNamesIn, Known}

-- ---- f of each number below n

module _ {A : Type 0} where
  pub length_up_to : (n : ℕ) (f : ℕ → A) → length (up_to n f) ≡ n
  unfolding up_to
  length_up_to zero f = refl
  length_up_to (suc n) f = ap suc (length_up_to n (λ i. f (suc i)))

  pub get_d_up_to : (n : ℕ) (f : ℕ → A) (i : ℕ) (d : A) → i < n → get_or (up_to n f) i d ≡ f i
  unfolding up_to
  get_d_up_to zero f i d h = absurd (omega arith)
  get_d_up_to (suc n) f zero d h = refl
  get_d_up_to (suc n) f (suc i) d h = get_d_up_to n (λ j. f (suc j)) i d (omega arith)

  pub up_to_same : (n : ℕ) (f g : ℕ → A) → ((i : ℕ) → i < n → f i ≡ g i) → up_to n f ≡ up_to n g
  unfolding up_to
  up_to_same zero f g h = refl
  up_to_same (suc n) f g h = λ t. h zero (omega arith) t ∷ up_to_same n (λ i. f (suc i)) (λ i. g (suc i)) (λ i p. h (suc i) (omega arith)) t

  -- a list is f of each number below its length, if its members are
  pub up_to_of : (d : A) (l : List A) (n : ℕ) (f : ℕ → A) → length l ≡ n → ((i : ℕ) → i < n → get_or l i d ≡ f i) → l ≡ up_to n f
  up_to_of d l n f e h = ext_get_or d l (up_to n f) (simp length_up_to e) (λ i p. let q : i < n = omega arith in simp get_d_up_to (h i q))

-- ---- the handler looked up

pub handled_here : (e f : ℕ) (φ : Phase) (x : Expr) (hs : List Handler) → eqb e f ≡ true → handled e (handler f φ x ∷ hs) ≡ in_phase φ x
unfolding handled
handled_here e f φ x hs t = rw (t, handled)

pub handled_there : (e f : ℕ) (φ : Phase) (x : Expr) (hs : List Handler) → eqb e f ≡ false → handled e (handler f φ x ∷ hs) ≡ handled e hs
unfolding handled
handled_there e f φ x hs t = rw (t, handled)

-- ---- the names of a response

abbrev pub ResponseNamesIn : ℕ → Response → Type 0
ResponseNamesIn n (follows x) = NamesIn n x
ResponseNamesIn n (takes x) = NamesIn n x
ResponseNamesIn n (defers x) = NamesIn n x
ResponseNamesIn n keeps = Unit {0}

phase_names : (n : ℕ) (φ : Phase) (x : Expr) → NamesIn n x → ResponseNamesIn n (in_phase φ x)
phase_names n immediate x h = h
phase_names n later x h = h

handled_names : (n e : ℕ) (hs : List Handler) → All (HandlerNamesIn n) hs → ResponseNamesIn n (handled e hs)
unfolding handled
handled_names n e [] h = tt
handled_names n e (handler f φ x ∷ hs) h = by_elim (ResponseNamesIn n) (eqb e f) (λ t. phase_names n φ x h.0) (λ t. handled_names n e hs h.1)

respond_names : (n e : ℕ) (b : Behaviour) → BehaviourNamesIn n b → ResponseNamesIn n (respond e b)
respond_names n e (passive x) h = h
respond_names n e (active s hs) h = handled_names n e hs h

pub named_in : (n j : ℕ) (x : Expr) → NamesIn n x → mentions j x ≡ true → j < n
unfolding mentions
named_in n j (con w) h e = absurd (false≢true e)
named_in n j (name i) h e = omega (arith, eqb-true i j e)
named_in n j (app1 f a) h e = named_in n j a h e
named_in n j (app2 f a b) h e = ⊎_elim (named_in n j a h.0) (named_in n j b h.1) (or_either (mentions j a) (mentions j b) e)
named_in n j (app3 f a b c) h e =
    ⊎_elim (named_in n j a h.0)
    (λ r. ⊎_elim (named_in n j b h.1) (named_in n j c h.2) (or_either (mentions j b) (mentions j c) r))
    (or_either (mentions j a) (mentions j b || mentions j c) e)

needs_in : (n i j : ℕ) (r : Response) → ResponseNamesIn n r → needs i j r ≡ true → j < n
needs_in n i j (follows x) h e = named_in n j x h e
needs_in n i j (takes x) h e = named_in n j x h ((and-eq-true_iff (mentions j x) (not (eqb i j))).0 e).0
needs_in n i j (defers x) h e = absurd (false≢true e)
needs_in n i j keeps h e = absurd (false≢true e)

-- past its end a program depends on nothing
pub none_past : (p : Program) (e a b : ℕ) → size p ≤ a → depends_on p e a b ≡ false
unfolding handled
none_past p e a b h = ap (λ (y : Behaviour). needs a b (respond e y)) (List·getD-eq-default p.behaviours (active 0 []) h)

-- what a program whose names are known depends on is among its behaviours
module _ (p : Program) (known : Known p) (e : ℕ) where
  pub response_names : (i : ℕ) → ResponseNamesIn (size p) (response p e i)
  response_names i = respond_names (size p) e (behaviour_at p i) (all_at_or (BehaviourNamesIn (size p)) p.behaviours i (active 0 []) known tt)

  pub depends_within : (i j : ℕ) → depends_on p e i j ≡ true → (i < size p) × (j < size p)
  depends_within i j h = (
    by_cases (dec_lt i (size p)) (λ s. s) (λ s. absurd (true≢false (sym h ∙ none_past p e i j (omega arith)))),
    needs_in (size p) i j (response p e i) (response_names i) h,
  )

-- ---- the nesting of a response

abbrev pub ResponseNested : Response → Type 0
ResponseNested (follows x) = Nested 16 x
ResponseNested (takes x) = Nested 16 x
ResponseNested (defers x) = Nested 16 x
ResponseNested keeps = Unit {0}

phase_nested : (φ : Phase) (x : Expr) → Nested 16 x → ResponseNested (in_phase φ x)
phase_nested immediate x h = h
phase_nested later x h = h

handled_nested : (n e : ℕ) (hs : List Handler) → HandlersFit n hs → ResponseNested (handled e hs)
unfolding handled
handled_nested n e [] h = tt
handled_nested n e (handler f φ x ∷ hs) h = by_elim ResponseNested (eqb e f) (λ t. phase_nested φ x h.1) (λ t. handled_nested n e hs h.3)

respond_nested : (n e : ℕ) (b : Behaviour) → BehaviourFits n b → ResponseNested (respond e b)
respond_nested n e (passive x) h = h
respond_nested n e (active s hs) h = handled_nested n e hs h.1

pub response_nested : (p : Program) → All (BehaviourFits (events p)) p.behaviours → (e i : ℕ) → ResponseNested (response p e i)
response_nested p h e i =
    respond_nested (events p) e (behaviour_at p i) (all_at_or (BehaviourFits (events p)) p.behaviours i (active 0 []) h (omega arith, tt))
