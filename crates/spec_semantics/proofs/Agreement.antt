-- The rules and the evaluator agree: on every event the rules give first-phase values and an updated program, exactly
-- one of each, and they are the evaluator's. The evaluator solves the equations, and a derivation is held against any
-- solution of them.
use Rattle.lib_base.proofs.Prelude.{ℕ, ◌≤◌, ◌<◌, ◌≡◌, refl, ◌∙◌, sym, ap, subst, List, [], length, get_or, ext_get_or}
use Rattle.lib_base.proofs.Prelude.{arith}
use Rattle.lib_base.proofs.Tools.{all_at}
use Rattle.spec_language.specs.Syntax.{Expr, Handler, Behaviour, passive, active, Program}
use Rattle.spec_language.specs.Dependence.{Response, follows, takes, defers, keeps, handled, respond, size, no_event, behaviour_at}
use Rattle.spec_language.specs.Order.{up_to}
use Rattle.spec_language.specs.Fits.{BehaviourFits}
use Rattle.spec_language.specs.Valid.{Valid}
use Rattle.spec_language.proofs.Laws.{get_d_up_to, up_to_of}
use Rattle.spec_semantics.specs.Rules.{behaviour, Yields, Updates, Steps, both, Runs, Shows}
use Rattle.spec_semantics.specs.Meaning.{value, at, first_phase, start_of, starts, fresh, carry, with_store}
use Rattle.spec_semantics.specs.Event.{event, Consistent}
use Rattle.spec_semantics.proofs.Solution.{first_of, second_of, Solves, value_same, own, own_same, first_length, first_solves, event_length, event_solves}
use Rattle.spec_semantics.proofs.Handlers.{Says, handled_says, undeclared_keeps}
use Rattle.spec_semantics.proofs.Derivations.{state_size, state_at, next_of, next, yields_alone, updates_alone, yields, updates}
use Rattle.spec_semantics.proofs.Lengths.{length_starts, length_fresh}

-- ---- a consistent store solves the equations of no event

consistent_first : (n : ℕ) (s : List ℕ) (i : ℕ) (b : Behaviour) → BehaviourFits n b → ((x : Expr) → b ≡ passive x → at s i ≡ value (at s) x)
    → at s i ≡ first_of s (at s) i (respond n b)
consistent_first n s i (passive x) f h = h x refl
consistent_first n s i (active c hs) f h = sym (ap (first_of s (at s) i) (undeclared_keeps n n hs (omega arith) f.1))

pub consistent_solves : (p : Program) → Valid p → (s : List ℕ) → Consistent p s → Solves p (no_event p) s (at s)
consistent_solves p v s h i b =
    consistent_first (no_event p) s i (behaviour_at p i) (all_at (BehaviourFits (no_event p)) p.behaviours i (active 0 []) v.each b) (λ x t. h.1 i x b t)

-- a consistent store shows its values, and no others
module _ (p : Program) (v : Valid p) (s : List ℕ) (consistent : Consistent p s) where
  pub consistent_show : (i : ℕ) → i < size p → Shows (with_store p s) i (at s i)
  unfolding with_store
  consistent_show i b = yields p v (no_event p) s (at s) (consistent_solves p v s consistent) (omega arith) i b

  pub consistent_alone : (i c : ℕ) → i < size p → Shows (with_store p s) i c → c ≡ at s i
  unfolding with_store
  consistent_alone i c b d = yields_alone p v (no_event p) s (at s) (consistent_solves p v s consistent) i c b d

-- ---- the parts of a step

steps_yield : {P : Program} {I x c : ℕ} {b b' : Behaviour} → Steps P I x b c b' → Yields P I (behaviour x b) c
steps_yield (both y u) = y

steps_update : {P : Program} {I x c : ℕ} {b b' : Behaviour} → Steps P I x b c b' → Updates P I x b b'
steps_update (both y u) = u

-- an active's next value is its second-phase value
next_second : (e : ℕ) (s : List ℕ) (first look : ℕ → ℕ) (x w : ℕ) (hs : List Handler) (r : Response) → Says e hs r
    → w ≡ second_of s first look x r → first x ≡ first_of s first x r → next_of e first x (at s x) r ≡ w
next_second e s first look x w hs (follows d) k h f = absurd k
next_second e s first look x w hs (takes d) k h f = sym (h ∙ f)
next_second e s first look x w hs (defers d) k h f = sym (h ∙ value_same first (own x (at s x) first) d (λ j m. own_same x (at s x) first j f))
next_second e s first look x w hs keeps k h f = sym h

next_carry : (e : ℕ) (s : List ℕ) (first look : ℕ → ℕ) (x w : ℕ) (b : Behaviour)
    → w ≡ second_of s first look x (respond e b) → first x ≡ first_of s first x (respond e b) → next e first x (carry (at s x) b) ≡ carry w b
next_carry e s first look x w (passive d) h f = refl
next_carry e s first look x w (active c hs) h f =
    ap (λ y. active y hs) (next_second e s first look x w hs (handled e hs) (handled_says e hs) h f)

-- ---- an event

module _ (p : Program) (v : Valid p) (e : ℕ) (declared : e ≤ no_event p) (s : List ℕ) (whole : length s ≡ size p) where
  pub event_consistent : Consistent p (event p e s)
  event_consistent = (
    event_length p v e declared s whole,
    λ i x b t. event_solves p v e declared s whole i b ∙ ap (λ y. second_of s (at (first_phase p e s)) (at (event p e s)) i (respond e y)) t,
  )

  next_is : (x : ℕ) → x < size p → next e (at (first_phase p e s)) x (behaviour_at (with_store p s) x) ≡ behaviour_at (with_store p (event p e s)) x
  next_is x b =
      ap (next e (at (first_phase p e s)) x) (state_at p s x b)
      ∙ next_carry e s (at (first_phase p e s)) (at (event p e s)) x (at (event p e s) x) (behaviour_at p x) (event_solves p v e declared s whole x b)
      (first_solves p v e declared s whole x b)
      ∙ sym (state_at p (event p e s) x b)

  pub rules_give : Runs (with_store p s) e (first_phase p e s) (with_store p (event p e s))
  unfolding with_store
  rules_give = record {
    same_events = refl;
    same_senders = refl;
    same_viewers = refl;
    same_size = state_size p (event p e s) ∙ sym (state_size p s);
    stored = first_length p v e declared s whole ∙ sym (state_size p s);
    each = λ x h.
        let b : x < size p = rw (state_size p s) at h in
        both (yields p v e s (at (first_phase p e s)) (first_solves p v e declared s whole) declared x b)
        (subst (Updates (with_store p s) e x (behaviour_at (with_store p s) x)) (next_is x b)
        (updates p v e s (at (first_phase p e s)) (first_solves p v e declared s whole) declared x b));
  }

  pub rules_show : (i : ℕ) → i < size p → Shows (with_store p (event p e s)) i (at (event p e s) i)
  rules_show = consistent_show p v (event p e s) event_consistent

  first_alone : (S : List ℕ) (P' : Program) → Runs (with_store p s) e S P' → S ≡ first_phase p e s
  first_alone S P' r =
      let l : length S ≡ size p = r.stored ∙ state_size p s in
      ext_get_or 0 S (first_phase p e s) (l ∙ sym (first_length p v e declared s whole)) (λ i h.
      let b : i < size p = omega arith in
      yields_alone p v e s (at (first_phase p e s)) (first_solves p v e declared s whole) i (get_or S i 0) b
      (steps_yield (r.each i (rw (state_size p s) b))))

  next_alone : (S : List ℕ) (P' : Program) → Runs (with_store p s) e S P' → P' ≡ with_store p (event p e s)
  unfolding with_store
  next_alone S P' r =
      let same : P'.behaviours ≡ up_to (size p) (λ i. carry (at (event p e s) i) (behaviour_at p i)) =
      up_to_of (active 0 []) P'.behaviours (size p) _ (r.same_size ∙ state_size p s) (λ i b.
      updates_alone p v e s (at (first_phase p e s)) (first_solves p v e declared s whole) i (behaviour_at P' i) b
      (steps_update (r.each i (rw (state_size p s) b)))
      ∙ next_is i b ∙ state_at p (event p e s) i b) in
      λ t. record { priorities = r.same_events t; senders = r.same_senders t; behaviours = same t; viewers = r.same_viewers t }

  pub rules_alone : (S : List ℕ) (P' : Program) → Runs (with_store p s) e S P' → (S ≡ first_phase p e s) × (P' ≡ with_store p (event p e s))
  rules_alone S P' r = (first_alone S P' r, next_alone S P' r)

  pub shows_alone : (i c : ℕ) → i < size p → Shows (with_store p (event p e s)) i c → c ≡ at (event p e s) i
  shows_alone = consistent_alone p v (event p e s) event_consistent

-- ---- a fresh round

carry_start : (b : Behaviour) → b ≡ carry (start_of b) b
carry_start (passive x) = refl
carry_start (active s hs) = refl

module _ (p : Program) where
  starts_at : (i : ℕ) → i < size p → at (starts p) i ≡ start_of (behaviour_at p i)
  unfolding starts
  starts_at i b = get_d_up_to (size p) _ i 0 b

  -- a program is its own state with the start values
  pub with_starts : p ≡ with_store p (starts p)
  unfolding with_store
  with_starts =
      let same : p.behaviours ≡ up_to (size p) (λ i. carry (at (starts p) i) (behaviour_at p i)) =
      up_to_of (active 0 []) p.behaviours (size p) _ refl (λ i b. carry_start (behaviour_at p i) ∙ ap (λ c. carry c (behaviour_at p i)) (sym (starts_at i b))) in
      λ t. record { priorities = p.priorities; senders = p.senders; behaviours = same t; viewers = p.viewers }

  module _ (v : Valid p) where
    fresh_solves : Solves p (no_event p) (starts p) (at (fresh p))
    unfolding fresh
    fresh_solves = first_solves p v (no_event p) (omega arith) (starts p) (length_starts p)

    pub fresh_consistent : Consistent p (fresh p)
    fresh_consistent = (length_fresh p, λ i x b t. fresh_solves i b ∙ ap (λ y. first_of (starts p) (at (fresh p)) i (respond (no_event p) y)) t)

    fresh_yields : (i : ℕ) → i < size p → Shows (with_store p (starts p)) i (at (fresh p) i)
    unfolding with_store
    fresh_yields = yields p v (no_event p) (starts p) (at (fresh p)) fresh_solves (omega arith)

    pub fresh_shows : (i : ℕ) → i < size p → Shows p i (at (fresh p) i)
    fresh_shows i b = subst (λ P. Shows P i (at (fresh p) i)) (sym with_starts) (fresh_yields i b)

    -- and no other values
    pub fresh_alone : (i c : ℕ) → i < size p → Shows p i c → c ≡ at (fresh p) i
    unfolding with_store
    fresh_alone i c b d = yields_alone p v (no_event p) (starts p) (at (fresh p)) fresh_solves i c b (subst (λ P. Shows P i c) with_starts d)
