-- By the rules an event runs over exactly if the evaluator finds that it does. A derivation finds an application in
-- what it evaluates itself or, behind a name, in a behaviour's turn; and what a turn finds is derived.
use Rattle.lib_base.proofs.Prelude.{ℕ, ◌≤◌, ◌<◌, ◌≡◌, refl, ◌∙◌, sym, ap, subst, true, false, Bool, ◌||◌, false≢true}
use Rattle.lib_base.proofs.Prelude.{true≢false, ◌⊎◌, ⊎_elim, inr, inl, List, [], length, eqb, arith}
use Rattle.lib_base.specs.Basics.{pick}
use Rattle.lib_base.proofs.Tools.{or_either, all_at}
use Rattle.lib_arith.specs.Functions.{over}
use Rattle.spec_language.specs.Syntax.{Expr, con, name, app1, app2, app3, Phase, immediate, later, Handler, Behaviour, passive, active, Program}
use Rattle.spec_language.specs.Dependence.{Response, follows, takes, defers, keeps, in_phase, handled, respond, size, no_event, response, behaviour_at, is_active, mentions}
use Rattle.spec_language.specs.Fits.{BehaviourFits}
use Rattle.spec_language.specs.Valid.{Valid}
use Rattle.spec_language.proofs.Laws.{named_in, ResponseNamesIn, response_names}
use Rattle.spec_semantics.specs.Rules.{substitute, Handles, Subject, expression, behaviour, Yields}
use Rattle.spec_semantics.specs.Meaning.{value, at, first_phase, carry, with_store}
use Rattle.spec_semantics.specs.Event.{event}
use Rattle.spec_semantics.proofs.Solution.{own, first_of, Solves, or_first, or_second, own_same, first_solves}
use Rattle.spec_semantics.proofs.Handlers.{Says, handles_handled, handled_says, undeclared_keeps}
use Rattle.spec_semantics.proofs.Derivations.{value_substitute, mentions_substitute, state_size, state_at, worth, once_at, Fine, derived, Has, expression_yields, has}
use Rattle.spec_semantics.proofs.Agreement.{consistent_solves, event_consistent, rules_give, rules_alone}
use Rattle.spec_semantics.specs.Over.{RunsOver, o_app1, o_app2, o_app3, o_only, o_first2, o_second2, o_first3, o_second3, o_third3, o_name, o_passive, o_immediate, EventOver, o_value, o_update, o_shown}
use Rattle.spec_semantics.specs.OverMeaning.{over_in, later_over, event_over}
use Rattle.spec_semantics.proofs.OverTurns.{over_same, first_finds, again_finds, Finds, event_finds, finds_event}

-- after substitution: the own name has the old value
over_substitute : (look : ℕ → ℕ) (x c : ℕ) (d : Expr) → over_in look (substitute x c d) ≡ over_in (own x c look) d
unfolding over_in substitute
over_substitute look x c (con w) = refl
over_substitute look x c (name i) = by_name (eqb i x)
  where
    by_name : (b : Bool) → over_in look (pick b (con c) (name i)) ≡ false
    by_name true = refl
    by_name false = refl
over_substitute look x c (app1 f a) = simp (value_substitute look x c a, over_substitute look x c a)
over_substitute look x c (app2 f a b) =
    simp (value_substitute look x c a, value_substitute look x c b, over_substitute look x c a, over_substitute look x c b)
over_substitute look x c (app3 f a b d) =
    simp (
      value_substitute look x c a,
      value_substitute look x c b,
      value_substitute look x c d,
      over_substitute look x c a,
      over_substitute look x c b,
      over_substitute look x c d,
    )

-- ---- any solution of the first phase's equations

module _ (p : Program) (v : Valid p) (e : ℕ) (s : List ℕ) (look : ℕ → ℕ) (solves : Solves p e s look) where
  -- what a subject finds itself
  abbrev finds_of : ℕ → ℕ → Response → Bool
  finds_of x c (follows d) = over_in look d
  finds_of x c (takes d) = over_in (own x c look) d
  finds_of x c (defers d) = false
  finds_of x c keeps = false

  abbrev finds : Subject → Bool
  finds (expression d) = over_in look d
  finds (behaviour x (passive d)) = over_in look d
  finds (behaviour x (active c hs)) = finds_of x c (handled e hs)

  finds_response : (x : ℕ) (r : Response) → finds_of x (at s x) r ≡ first_finds s look x r
  finds_response x (follows d) = refl
  finds_response x (takes d) = refl
  finds_response x (defers d) = refl
  finds_response x keeps = refl

  finds_carry : (x : ℕ) (b : Behaviour) → finds (behaviour x (carry (at s x) b)) ≡ first_finds s look x (respond e b)
  finds_carry x (passive d) = refl
  finds_carry x (active c hs) = finds_response x (handled e hs)

  finds_at : (i : ℕ) → i < size p → finds (behaviour i (behaviour_at (with_store p s) i)) ≡ first_finds s look i (response p e i)
  finds_at i h = ap (λ b. finds (behaviour i b)) (state_at p s i h) ∙ finds_carry i (behaviour_at p i)

  -- some behaviour finds it in its turn of phase one
  abbrev pub Some : Type 0
  Some = (x : ℕ) × (x < size p) × (first_finds s look x (response p e x) ≡ true)

  -- in an argument
  within : {x y : Bool} → (x ≡ true → y ≡ true) → (x ≡ true) ⊎ Some → (y ≡ true) ⊎ Some
  within f (inl h) = inl (f h)
  within f (inr h) = inr h

  in_two : (o a b : Bool) → (a ≡ true) ⊎ (b ≡ true) → o || (a || b) ≡ true
  in_two o a b (inl h) = or_second o (a || b) (or_first a b h)
  in_two o a b (inr h) = or_second o (a || b) (or_second a b h)

  abbrev Made : Subject → Type 0
  Made t = Fine p v e s look solves t

  made : {t : Subject} {c : ℕ} → Yields (with_store p s) e t c → Made t → c ≡ worth e look t
  made = derived p v e s look solves

  over_found : {t : Subject} → RunsOver (with_store p s) e t → Made t → (finds t ≡ true) ⊎ Some
  unfolding over_in
  over_found (o_app1 {f = f} {u = u} {a = a} y h) k =
      let q : value look a ≡ u = sym (made y tt) in
      inl (or_first (over f (value look a) 0 0) (over_in look a) (rw q h))
  over_found (o_app2 {f = f} {u = u} {v = w} {a = a} {b = b} y z h) k =
      let q : value look a ≡ u = sym (made y tt) in
      let r : value look b ≡ w = sym (made z tt) in
      inl (or_first (over f (value look a) (value look b) 0) (over_in look a || over_in look b) (rw (q, r) h))
  over_found (o_app3 {f = f} {u = u} {v = w} {w = x} {a = a} {b = b} {d = d} y z t h) k =
      let q : value look a ≡ u = sym (made y tt) in
      let r : value look b ≡ w = sym (made z tt) in
      let m : value look d ≡ x = sym (made t tt) in
      inl (or_first (over f (value look a) (value look b) (value look d)) (over_in look a || (over_in look b || over_in look d)) (rw (q, r, m) h))
  over_found (o_only {f = f} {a = a} y) k = within (or_second (over f (value look a) 0 0) (over_in look a)) (over_found y tt)
  over_found (o_first2 {f = f} {a = a} {b = b} y) k =
      within (λ h. in_two (over f (value look a) (value look b) 0) (over_in look a) (over_in look b) (inl h)) (over_found y tt)
  over_found (o_second2 {f = f} {a = a} {b = b} y) k =
      within (λ h. in_two (over f (value look a) (value look b) 0) (over_in look a) (over_in look b) (inr h)) (over_found y tt)
  over_found (o_first3 {f = f} {a = a} {b = b} {d = d} y) k =
      within (λ h. in_two (over f (value look a) (value look b) (value look d)) (over_in look a) (over_in look b || over_in look d) (inl h)) (over_found y tt)
  over_found (o_second3 {f = f} {a = a} {b = b} {d = d} y) k =
      within (λ h. in_two (over f (value look a) (value look b) (value look d)) (over_in look a) (over_in look b || over_in look d)
      (inr (or_first (over_in look b) (over_in look d) h))) (over_found y tt)
  over_found (o_third3 {f = f} {a = a} {b = b} {d = d} y) k =
      within (λ h. in_two (over f (value look a) (value look b) (value look d)) (over_in look a) (over_in look b || over_in look d)
      (inr (or_second (over_in look b) (over_in look d) h))) (over_found y tt)
  over_found (o_name {x = x} h y) k =
      let b : x < size p = rw (state_size p s) at h in
      ⊎_elim (λ q. inr (x, b, sym (finds_at x b) ∙ q)) (λ q. inr q) (over_found y (once_at p v e s look solves x b))
  over_found (o_passive y) k = over_found y tt
  over_found (o_immediate {x = x} {c = c} {H = H} {d = d} h y) k =
      within (λ q. ap (finds_of x c) (handles_handled (no_event p) h k) ∙ sym (over_substitute look x c d) ∙ q) (over_found y tt)

  -- of a behaviour
  pub behaviour_found : (i : ℕ) → i < size p → RunsOver (with_store p s) e (behaviour i (behaviour_at (with_store p s) i)) → Some
  behaviour_found i b y = ⊎_elim (λ h. (i, b, sym (finds_at i b) ∙ h)) (λ h. h) (over_found y (once_at p v e s look solves i b))

  -- of a handler's expression
  pub handler_found : (x c : ℕ) (d : Expr) → RunsOver (with_store p s) e (expression (substitute x c d)) → (over_in (own x c look) d ≡ true) ⊎ Some
  handler_found x c d y = ⊎_elim (λ h. inl (sym (over_substitute look x c d) ∙ h)) (λ h. inr h) (over_found y tt)

  -- ---- it is derived

  module _ (declared : e ≤ no_event p) where
    abbrev Named : Expr → Type 0
    Named d = (j : ℕ) → mentions j d ≡ true → Has p v e s look solves j

    gives : (d : Expr) → Named d → Yields (with_store p s) e (expression d) (value look d)
    gives = expression_yields p v e s look solves

    expression_over : (d : Expr) → Named d → over_in look d ≡ true → RunsOver (with_store p s) e (expression d)
    unfolding over_in mentions
    expression_over (con w) n h = absurd (false≢true h)
    expression_over (name i) n h = absurd (false≢true h)
    expression_over (app1 f a) n h =
        ⊎_elim (λ k. o_app1 (gives a n) k) (λ k. o_only (expression_over a n k)) (or_either (over f (value look a) 0 0) (over_in look a) h)
    expression_over (app2 f a b) n h =
        let na : Named a = λ j m. n j (or_first (mentions j a) (mentions j b) m) in
        let nb : Named b = λ j m. n j (or_second (mentions j a) (mentions j b) m) in
        ⊎_elim (λ k. o_app2 (gives a na) (gives b nb) k)
        (λ k. ⊎_elim (λ l. o_first2 (expression_over a na l)) (λ l. o_second2 (expression_over b nb l)) (or_either (over_in look a) (over_in look b) k))
        (or_either (over f (value look a) (value look b) 0) (over_in look a || over_in look b) h)
    expression_over (app3 f a b d) n h =
        let na : Named a = λ j m. n j (or_first (mentions j a) _ m) in
        let nb : Named b = λ j m. n j (or_second (mentions j a) _ (or_first (mentions j b) (mentions j d) m)) in
        let nd : Named d = λ j m. n j (or_second (mentions j a) _ (or_second (mentions j b) (mentions j d) m)) in
        ⊎_elim (λ k. o_app3 (gives a na) (gives b nb) (gives d nd) k)
        (λ k. ⊎_elim (λ l. o_first3 (expression_over a na l))
        (λ l. ⊎_elim (λ m. o_second3 (expression_over b nb m)) (λ m. o_third3 (expression_over d nd m)) (or_either (over_in look b) (over_in look d) l))
        (or_either (over_in look a) (over_in look b || over_in look d) k))
        (or_either (over f (value look a) (value look b) (value look d)) (over_in look a || (over_in look b || over_in look d)) h)

    named : (d : Expr) → ((j : ℕ) → mentions j d ≡ true → j < size p) → Named d
    named d h j m = has p v e s look solves declared j (h j m)

    -- a handler's expression, its names being behaviours
    pub handler_over : (x c : ℕ) (d : Expr) → ((j : ℕ) → mentions j d ≡ true → j < size p) → over_in (own x c look) d ≡ true
        → RunsOver (with_store p s) e (expression (substitute x c d))
    handler_over x c d n h =
        expression_over (substitute x c d) (named (substitute x c d) (λ j m. n j (mentions_substitute x c j d m).0)) (over_substitute look x c d ∙ h)

    active_over : (i c : ℕ) (hs : List Handler) (r : Response) → Says e hs r → ResponseNamesIn (size p) r → finds_of i c r ≡ true
        → RunsOver (with_store p s) e (behaviour i (active c hs))
    active_over i c hs (follows d) k n h = absurd k
    active_over i c hs (takes d) k n h = o_immediate k (handler_over i c d (λ j m. named_in (size p) j d n m) h)
    active_over i c hs (defers d) k n h = absurd (false≢true h)
    active_over i c hs keeps k n h = absurd (false≢true h)

    carried_over_law : (i c : ℕ) (b : Behaviour) → ResponseNamesIn (size p) (respond e b) → finds (behaviour i (carry c b)) ≡ true
        → RunsOver (with_store p s) e (behaviour i (carry c b))
    carried_over_law i c (passive d) n h = o_passive (expression_over d (named d (λ j m. named_in (size p) j d n m)) h)
    carried_over_law i c (active w hs) n h = active_over i c hs (handled e hs) (handled_says e hs) n h

    pub behaviour_over : (i : ℕ) → i < size p → first_finds s look i (response p e i) ≡ true
        → RunsOver (with_store p s) e (behaviour i (behaviour_at (with_store p s) i))
    behaviour_over i b h =
        subst (λ x. RunsOver (with_store p s) e (behaviour i x)) (sym (state_at p s i b))
        (carried_over_law i (at s i) (behaviour_at p i) (response_names p v.known e i) (finds_carry i (behaviour_at p i) ∙ h))

-- ---- an active's parts

abbrev handlers_of : Behaviour → List Handler
handlers_of (passive y) = []
handlers_of (active c hs) = hs

abbrev value_of : Behaviour → ℕ
value_of (passive y) = 0
value_of (active c hs) = c

-- ---- an event

module _ (p : Program) (v : Valid p) (e : ℕ) (declared : e ≤ no_event p) (s : List ℕ) (whole : length s ≡ size p) where
  abbrev first : ℕ → ℕ
  first = at (first_phase p e s)

  abbrev last : List ℕ
  last = event p e s

  solves : Solves p e s first
  solves = first_solves p v e declared s whole

  consistent : Solves p (no_event p) last (at last)
  consistent = consistent_solves p v last (event_consistent p v e declared s whole)

  fits : (x : ℕ) → x < size p → BehaviourFits (no_event p) (behaviour_at p x)
  fits x b = all_at (BehaviourFits (no_event p)) p.behaviours x (active 0 []) v.each b

  -- ---- what the evaluator finds is derived

  -- a later handler
  later_handler : (x : ℕ) (hs : List Handler) (r : Response) → Says e hs r → ResponseNamesIn (size p) r → first x ≡ first_of s first x r
      → later_over (first_phase p e s) r ≡ true → (d : Expr) × Handles e later d hs × RunsOver (with_store p s) e (expression (substitute x (at s x) d))
  later_handler x hs (follows d) k n f h = absurd k
  later_handler x hs (takes d) k n f h = absurd (false≢true h)
  later_handler x hs (defers d) k n f h = (
    d,
    k,
    handler_over p v e s first solves declared x (at s x) d (λ j m. named_in (size p) j d n m)
        (sym (over_same first (own x (at s x) first) d (λ j m. own_same x (at s x) first j f)) ∙ h),
  )
  later_handler x hs keeps k n f h = absurd (false≢true h)

  later_behaviour : (x : ℕ) (b : Behaviour) → x < size p → behaviour_at (with_store p s) x ≡ carry (at s x) b → ResponseNamesIn (size p) (respond e b)
      → first x ≡ first_of s first x (respond e b) → later_over (first_phase p e s) (respond e b) ≡ true → EventOver (with_store p s) e
  later_behaviour x (passive d) l t n f h = absurd (false≢true h)
  later_behaviour x (active c hs) l t n f h =
      let q = later_handler x hs (handled e hs) (handled_says e hs) n f h in
      o_update {x = x} (rw (state_size p s) l) t q.1 q.2

  -- the second time: a passive, which is one under no event too
  active_quiet : (hs : List Handler) (r : Response) → Says e hs r → again_finds (at last) r ≡ true → ⊥
  active_quiet hs (follows d) k h = k
  active_quiet hs (takes d) k h = false≢true h
  active_quiet hs (defers d) k h = false≢true h
  active_quiet hs keeps k h = false≢true h

  again_finds_law : (x : ℕ) (b : Behaviour) → again_finds (at last) (respond e b) ≡ true → first_finds last (at last) x (respond (no_event p) b) ≡ true
  again_finds_law x (passive d) h = h
  again_finds_law x (active c hs) h = absurd (active_quiet hs (handled e hs) (handled_says e hs) h)

  shown_over : (x : ℕ) → x < size p → again_finds (at last) (response p e x) ≡ true → EventOver (with_store p s) e
  unfolding with_store
  shown_over x b h =
      o_shown {x = x} (rules_give p v e declared s whole) (rw (state_size p last) b)
      (behaviour_over p v (no_event p) last (at last) consistent (omega arith) x b (again_finds_law x (behaviour_at p x) h))

  pub rules_find : event_over p e s ≡ true → EventOver (with_store p s) e
  rules_find h = go (event_finds p v e declared s h)
    where
      go : (x : ℕ) × (x < size p) × Finds p v e declared s x → EventOver (with_store p s) e
      go (x, b, inl k) = o_value {x = x} (rw (state_size p s) b) (behaviour_over p v e s first solves declared x b k)
      go (x, b, inr (inl k)) =
          later_behaviour x (behaviour_at p x) b (state_at p s x b) (response_names p v.known e x) (solves x b) k
      go (x, b, inr (inr k)) = shown_over x b k

  -- ---- what is derived the evaluator finds

  some_event : Some p v e s first solves → event_over p e s ≡ true
  some_event (x, b, h) = finds_event p v e declared s x b (inl h)

  -- a handler of either phase
  phase_finds : (x : ℕ) (φ : Phase) (d : Expr) (r : Response) → r ≡ in_phase φ d → first x ≡ first_of s first x r → over_in (own x (at s x) first) d ≡ true
      → (first_finds s first x r ≡ true) ⊎ (later_over (first_phase p e s) r ≡ true)
  phase_finds x immediate d r t f h = inl (ap (first_finds s first x) t ∙ h)
  phase_finds x later d r t f h =
      inr (ap (later_over (first_phase p e s)) t
      ∙ over_same first (own x (at s x) first) d (λ j m. own_same x (at s x) first j (f ∙ ap (first_of s first x) t)) ∙ h)

  handled_finds : (x c : ℕ) (H : List Handler) (φ : Phase) (d : Expr) (b : Behaviour) → x < size p → behaviour_at p x ≡ b → BehaviourFits (no_event p) b
      → carry (at s x) b ≡ active c H → Handles e φ d H → over_in (own x c first) d ≡ true → event_over p e s ≡ true
  handled_finds x c H φ d (passive y) l q f t k h = absurd (true≢false (sym (ap is_active t)))
  handled_finds x c H φ d (active w hs) l q f t k h =
      let same : hs ≡ H = ap handlers_of t in
      let old : at s x ≡ c = ap value_of t in
      let one : handled e hs ≡ in_phase φ d = handles_handled (no_event p) (subst (Handles e φ d) (sym same) k) f.1 in
      let r : response p e x ≡ in_phase φ d = ap (respond e) q ∙ one in
      ⊎_elim (λ m. finds_event p v e declared s x l (inl m)) (λ m. finds_event p v e declared s x l (inr (inl m)))
      (phase_finds x φ d (response p e x) r (solves x l) (ap (λ (y : ℕ). over_in (own x y first) d) old ∙ h))

  -- what a board shows: under no event only passives have a turn
  quiet_finds : (x : ℕ) (b : Behaviour) → BehaviourFits (no_event p) b → first_finds last (at last) x (respond (no_event p) b) ≡ true
      → again_finds (at last) (respond e b) ≡ true
  quiet_finds x (passive d) f h = h
  quiet_finds x (active c hs) f h =
      absurd (false≢true (sym (ap (first_finds last (at last) x) (undeclared_keeps (no_event p) (no_event p) hs (omega arith) f.1)) ∙ h))

  shown_event : Some p v (no_event p) last (at last) consistent → event_over p e s ≡ true
  shown_event (x, b, h) = finds_event p v e declared s x b (inr (inr (quiet_finds x (behaviour_at p x) (fits x b) h)))

  shown_found : (x : ℕ) → x < size p → RunsOver (with_store p last) (no_event (with_store p last)) (behaviour x (behaviour_at (with_store p last) x)) → event_over p e s ≡ true
  unfolding with_store
  shown_found x b y = shown_event (behaviour_found p v (no_event p) last (at last) consistent x b y)

  pub rules_find_only : EventOver (with_store p s) e → event_over p e s ≡ true
  rules_find_only (o_value {x = x} h y) = some_event (behaviour_found p v e s first solves x (rw (state_size p s) at h) y)
  rules_find_only (o_update {x = x} {c = c} {H = H} {d = d} {φ = φ} h t k y) =
      let b : x < size p = rw (state_size p s) at h in
      ⊎_elim (λ m. handled_finds x c H φ d (behaviour_at p x) b refl (fits x b) (sym (state_at p s x b) ∙ t) k m) some_event
      (handler_found p v e s first solves x c d y)
  rules_find_only (o_shown {x = x} {S = S} {P' = P'} r h y) =
      let q : P' ≡ with_store p last = (rules_alone p v e declared s whole S P' r).1 in
      let b : x < size (with_store p last) = subst (λ (P : Program). x < size P) q h in
      shown_found x (rw (state_size p last) at b) (subst (λ (P : Program). RunsOver P (no_event P) (behaviour x (behaviour_at P x))) q y)
