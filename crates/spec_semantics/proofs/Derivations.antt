-- The rules against the equations: whatever is derived is the value of any solution, by induction on the derivation;
-- and it is derived, by induction over needs. So for updates.
use Rattle.lib_base.proofs.Prelude.{ℕ, ◌≤◌, ◌<◌, ◌≡◌, refl, ◌∙◌, sym, ap, subst, true, false, Bool, ◌||◌, false≢true}
use Rattle.lib_base.proofs.Prelude.{true≢false, ◌⊎◌, ⊎_elim, inr, inl, List, [], eqb, ne_eqb, eqb-true, eq-eqb}
use Rattle.lib_base.proofs.Prelude.{eqb-false}
use Rattle.lib_base.specs.Basics.{pick}
use Rattle.lib_base.proofs.Tools.{by_test, split, or_either, all_at}
use Rattle.lib_arith.specs.Functions.{result_of}
use Rattle.spec_language.specs.Syntax.{Expr, con, name, app1, app2, app3, Phase, immediate, later, Handler, Behaviour, passive, active, Program}
use Rattle.spec_language.specs.Dependence.{Response, follows, takes, defers, keeps, in_phase, handled, respond, size, no_event, behaviour_at, mentions, needs}
use Rattle.spec_language.specs.Order.{early}
use Rattle.spec_language.specs.Fits.{BehaviourFits, HandlersFit}
use Rattle.spec_language.specs.Valid.{Valid}
use Rattle.spec_language.proofs.Laws.{length_up_to, get_d_up_to, named_in, ResponseNamesIn, response_names, depends_within}
use Rattle.spec_semantics.specs.Rules.{substitute, Handles, Subject, expression, behaviour, Yields, y_name, y_con, y_app1, y_app2, y_app3, y_passive, y_immediate, y_still, Updates, u_passive, u_handled, u_still}
use Rattle.spec_semantics.specs.Meaning.{value, at, carry, with_store}
use Rattle.spec_semantics.proofs.OrderLaws.{by_needs}
use Rattle.spec_semantics.proofs.Solution.{own, first_of, Solves, or_first, or_second, needed}
use Rattle.spec_semantics.proofs.Handlers.{Says, handles_handled, handled_says}

-- ---- substitution

eqb_sym : (a b : ℕ) → eqb a b ≡ eqb b a
eqb_sym a b =
    split (eqb a b) (λ t. t ∙ sym (eq-eqb b a (sym (eqb-true a b t)))) (λ t. t ∙ sym (ne_eqb b a (λ u. eqb-false a b t (sym u))))

-- a value after substitution: the own name has the old value
pub value_substitute : (look : ℕ → ℕ) (x c : ℕ) (d : Expr) → value look (substitute x c d) ≡ value (own x c look) d
unfolding value substitute
value_substitute look x c (con w) = refl
value_substitute look x c (name i) =
    by_test (λ y. value look y ≡ own x c look i) (eqb i x) (λ t. rw (eqb_sym x i, t)) (λ t. rw (eqb_sym x i, t))
value_substitute look x c (app1 f a) = ap (λ u. result_of f u 0 0) (value_substitute look x c a)
value_substitute look x c (app2 f a b) = simp (value_substitute look x c a, value_substitute look x c b)
value_substitute look x c (app3 f a b d) = simp (value_substitute look x c a, value_substitute look x c b, value_substitute look x c d)

-- the names left are those of the expression but the own one
abbrev Left : ℕ → ℕ → Expr → Type 0
Left x j d = (mentions j d ≡ true) × (eqb x j ≡ false)

left_or : (x j : ℕ) (a b : Bool) → ((a ≡ true) × (eqb x j ≡ false)) ⊎ ((b ≡ true) × (eqb x j ≡ false)) → (a || b ≡ true) × (eqb x j ≡ false)
left_or x j true b (inl h) = (refl, h.1)
left_or x j false b (inl h) = (absurd (false≢true h.0), h.1)
left_or x j true b (inr h) = (refl, h.1)
left_or x j false b (inr h) = h

name_left : (x c j i : ℕ) → mentions j (pick (eqb i x) (con c) (name i)) ≡ true → Left x j (name i)
unfolding mentions
name_left x c j i =
    by_test (λ y. mentions j y ≡ true → Left x j (name i)) (eqb i x) (λ t h. absurd (false≢true h))
    (λ t h. (h, ne_eqb x j (λ u. eqb-false i x t (eqb-true i j h ∙ sym u))))

pub mentions_substitute : (x c j : ℕ) (d : Expr) → mentions j (substitute x c d) ≡ true → Left x j d
unfolding mentions substitute
mentions_substitute x c j (con w) h = absurd (false≢true h)
mentions_substitute x c j (name i) h = name_left x c j i h
mentions_substitute x c j (app1 f a) h = mentions_substitute x c j a h
mentions_substitute x c j (app2 f a b) h =
    left_or x j (mentions j a) (mentions j b)
    (⊎_elim (λ k. inl (mentions_substitute x c j a k)) (λ k. inr (mentions_substitute x c j b k)) (or_either (mentions j (substitute x c a)) _ h))
mentions_substitute x c j (app3 f a b d) h =
    left_or x j (mentions j a) (mentions j b || mentions j d)
    (⊎_elim (λ k. inl (mentions_substitute x c j a k))
    (λ k. inr (left_or x j (mentions j b) (mentions j d)
    (⊎_elim (λ l. inl (mentions_substitute x c j b l)) (λ l. inr (mentions_substitute x c j d l)) (or_either (mentions j (substitute x c b)) _ k))))
    (or_either (mentions j (substitute x c a)) _ h))

-- ---- the state as a program

-- an active's handlers, at most one for an event
abbrev pub OnceEach : ℕ → Behaviour → Type 0
OnceEach n (passive x) = Unit {0}
OnceEach n (active c hs) = HandlersFit n hs

once_carry : (n w : ℕ) (b : Behaviour) → BehaviourFits n b → OnceEach n (carry w b)
once_carry n w (passive x) h = tt
once_carry n w (active c hs) h = h.1

module _ (p : Program) (s : List ℕ) where
  pub state_size : size (with_store p s) ≡ size p
  unfolding with_store
  state_size = length_up_to (size p) _

  pub state_at : (i : ℕ) → i < size p → behaviour_at (with_store p s) i ≡ carry (at s i) (behaviour_at p i)
  unfolding with_store
  state_at i h = get_d_up_to (size p) _ i (active 0 []) h

-- ---- what a subject is worth, given the values of names

module _ (e : ℕ) (look : ℕ → ℕ) where
  abbrev pub worth_of : ℕ → ℕ → Response → ℕ
  worth_of x c (follows d) = value look d
  worth_of x c (takes d) = value (own x c look) d
  worth_of x c (defers d) = c
  worth_of x c keeps = c

  abbrev pub worth : Subject → ℕ
  worth (expression d) = value look d
  worth (behaviour x (passive d)) = value look d
  worth (behaviour x (active c hs)) = worth_of x c (handled e hs)

  -- what an active becomes
  abbrev pub next_of : ℕ → ℕ → Response → ℕ
  next_of x c (follows d) = c
  next_of x c (takes d) = value (own x c look) d
  next_of x c (defers d) = value (own x c look) d
  next_of x c keeps = c

  abbrev pub next : ℕ → Behaviour → Behaviour
  next x (passive d) = passive d
  next x (active c hs) = active (next_of x c (handled e hs)) hs

  worth_first : (s : List ℕ) (x : ℕ) (r : Response) → worth_of x (at s x) r ≡ first_of s look x r
  worth_first s x (follows d) = refl
  worth_first s x (takes d) = refl
  worth_first s x (defers d) = refl
  worth_first s x keeps = refl

  worth_carry : (s : List ℕ) (x : ℕ) (b : Behaviour) → worth (behaviour x (carry (at s x) b)) ≡ first_of s look x (respond e b)
  worth_carry s x (passive d) = refl
  worth_carry s x (active c hs) = worth_first s x (handled e hs)

  still_worth : (x c : ℕ) (hs : List Handler) (r : Response) → Says e hs r → ((d : Expr) → Handles e immediate d hs → ⊥) → c ≡ worth_of x c r
  still_worth x c hs (follows d) h n = absurd h
  still_worth x c hs (takes d) h n = absurd (n d h)
  still_worth x c hs (defers d) h n = refl
  still_worth x c hs keeps h n = refl

  next_phase : (x c : ℕ) (φ : Phase) (d : Expr) → next_of x c (in_phase φ d) ≡ value (own x c look) d
  next_phase x c immediate d = refl
  next_phase x c later d = refl

  still_next : (x c : ℕ) (hs : List Handler) (r : Response) → Says e hs r → ((φ : Phase) (d : Expr) → Handles e φ d hs → ⊥) → next_of x c r ≡ c
  still_next x c hs (follows d) h n = absurd h
  still_next x c hs (takes d) h n = absurd (n immediate d h)
  still_next x c hs (defers d) h n = absurd (n later d h)
  still_next x c hs keeps h n = refl

-- ---- any solution of the first phase's equations

module _ (p : Program) (v : Valid p) (e : ℕ) (s : List ℕ) (look : ℕ → ℕ) (solves : Solves p e s look) where
  pub once_at : (i : ℕ) → i < size p → OnceEach (no_event p) (behaviour_at (with_store p s) i)
  once_at i h =
      rw (state_at p s i h) (once_carry (no_event p) (at s i) (behaviour_at p i) (all_at (BehaviourFits (no_event p)) p.behaviours i (active 0 []) v.each h))

  worth_at : (i : ℕ) → i < size p → worth e look (behaviour i (behaviour_at (with_store p s) i)) ≡ look i
  worth_at i h = ap (λ b. worth e look (behaviour i b)) (state_at p s i h) ∙ worth_carry e look s i (behaviour_at p i) ∙ sym (solves i h)

  abbrev pub Fine : Subject → Type 0
  Fine (expression d) = Unit {0}
  Fine (behaviour x b) = OnceEach (no_event p) b

  pub derived : {t : Subject} {c : ℕ} → Yields (with_store p s) e t c → Fine t → c ≡ worth e look t
  unfolding value
  derived (y_name {x = x} h d) f = let b : x < size p = rw (state_size p s) at h in derived d (once_at x b) ∙ worth_at x b
  derived y_con f = refl
  derived (y_app1 {f = k} d) f = ap (λ u. result_of k u 0 0) (derived d tt)
  derived (y_app2 d d') f = simp (derived d tt, derived d' tt)
  derived (y_app3 d d' d'') f = simp (derived d tt, derived d' tt, derived d'' tt)
  derived (y_passive d) f = derived d tt
  derived (y_immediate {x = x} {c = c} {H = H} {d = d} h y) f =
      derived y tt ∙ value_substitute look x c d ∙ sym (ap (worth_of e look x c) (handles_handled (no_event p) h f))
  derived (y_still {x = x} {c = c} {H = H} n) f = still_worth e look x c H (handled e H) (handled_says e H) n

  -- nothing else is derived
  pub yields_alone : (i c : ℕ) → i < size p → Yields (with_store p s) e (behaviour i (behaviour_at (with_store p s) i)) c → c ≡ look i
  yields_alone i c h d = derived d (once_at i h) ∙ worth_at i h

  updated : {x : ℕ} {b b' : Behaviour} → Updates (with_store p s) e x b b' → OnceEach (no_event p) b → b' ≡ next e look x b
  updated u_passive f = refl
  updated (u_handled {x = x} {c = c} {H = H} {d = d} {φ = φ} h y) f =
      ap (λ w. active w H)
      (derived y tt ∙ value_substitute look x c d ∙ sym (ap (next_of e look x c) (handles_handled (no_event p) h f) ∙ next_phase e look x c φ d))
  updated (u_still {x = x} {c = c} {H = H} n) f = ap (λ w. active w H) (sym (still_next e look x c H (handled e H) (handled_says e H) n))

  pub updates_alone : (i : ℕ) (b : Behaviour) → i < size p → Updates (with_store p s) e i (behaviour_at (with_store p s) i) b
      → b ≡ next e look i (behaviour_at (with_store p s) i)
  updates_alone i b h u = updated u (once_at i h)

  -- ---- it is derived
  abbrev pub Has : ℕ → Type 0
  Has j = (j < size p) × Yields (with_store p s) e (behaviour j (behaviour_at (with_store p s) j)) (look j)

  pub expression_yields : (d : Expr) → ((j : ℕ) → mentions j d ≡ true → Has j) → Yields (with_store p s) e (expression d) (value look d)
  unfolding value mentions
  expression_yields (con w) h = y_con
  expression_yields (name i) h = let k : Has i = h i (eq-eqb i i refl) in y_name {x = i} (rw (state_size p s) k.0) k.1
  expression_yields (app1 f a) h = y_app1 (expression_yields a h)
  expression_yields (app2 f a b) h =
      y_app2 (expression_yields a (λ j m. h j (or_first (mentions j a) (mentions j b) m)))
      (expression_yields b (λ j m. h j (or_second (mentions j a) (mentions j b) m)))
  expression_yields (app3 f a b d) h =
      y_app3 (expression_yields a (λ j m. h j (or_first (mentions j a) _ m)))
      (expression_yields b (λ j m. h j (or_second (mentions j a) _ (or_first (mentions j b) (mentions j d) m))))
      (expression_yields d (λ j m. h j (or_second (mentions j a) _ (or_second (mentions j b) (mentions j d) m))))

  substituted : (x c : ℕ) (d : Expr) → ((j : ℕ) → mentions j d ≡ true → eqb x j ≡ false → Has j)
      → Yields (with_store p s) e (expression (substitute x c d)) (value (own x c look) d)
  substituted x c d h =
      subst (Yields (with_store p s) e (expression (substitute x c d))) (value_substitute look x c d)
      (expression_yields (substitute x c d) (λ j m. let k = mentions_substitute x c j d m in h j k.0 k.1))

  active_yields : (i c : ℕ) (hs : List Handler) (r : Response) → handled e hs ≡ r → Says e hs r → HandlersFit (no_event p) hs
      → ((j : ℕ) → needs i j r ≡ true → Has j) → Yields (with_store p s) e (behaviour i (active c hs)) (worth_of e look i c r)
  active_yields i c hs (follows d) t k f h = absurd k
  active_yields i c hs (takes d) t k f h = y_immediate k (substituted i c d (λ j m n. h j (needed i j d m n)))
  active_yields i c hs (defers d) t k f h = y_still (λ x l. true≢false (ap early (sym (handles_handled (no_event p) l f) ∙ t)))
  active_yields i c hs keeps t k f h = y_still (λ x l. k immediate x l)

  behaviour_yields : (i c : ℕ) (b : Behaviour) → OnceEach (no_event p) (carry c b) → ((j : ℕ) → needs i j (respond e b) ≡ true → Has j)
      → Yields (with_store p s) e (behaviour i (carry c b)) (worth e look (behaviour i (carry c b)))
  behaviour_yields i c (passive d) f h = y_passive (expression_yields d h)
  behaviour_yields i c (active w hs) f h = active_yields i c hs (handled e hs) refl (handled_says e hs) f h

  module _ (declared : e ≤ no_event p) where
    pub yields : (i : ℕ) → i < size p → Yields (with_store p s) e (behaviour i (behaviour_at (with_store p s) i)) (look i)
    yields =
        by_needs p v e declared (λ i. Yields (with_store p s) e (behaviour i (behaviour_at (with_store p s) i)) (look i)) (λ i b h.
        subst (Yields (with_store p s) e (behaviour i (behaviour_at (with_store p s) i))) (worth_at i b)
        (subst (λ x. Yields (with_store p s) e (behaviour i x) (worth e look (behaviour i x))) (sym (state_at p s i b))
        (behaviour_yields i (at s i) (behaviour_at p i) (rw (state_at p s i b) at (once_at i b)) (λ j d. ((depends_within p v.known e i j d).1, h j d)))))

    pub has : (j : ℕ) → j < size p → Has j
    has j b = (b, yields j b)

    active_updates : (i c : ℕ) (hs : List Handler) (r : Response) → Says e hs r → ResponseNamesIn (size p) r
        → Updates (with_store p s) e i (active c hs) (active (next_of e look i c r) hs)
    active_updates i c hs (follows d) k f = absurd k
    active_updates i c hs (takes d) k f = u_handled k (substituted i c d (λ j m n. has j (named_in (size p) j d f m)))
    active_updates i c hs (defers d) k f = u_handled k (substituted i c d (λ j m n. has j (named_in (size p) j d f m)))
    active_updates i c hs keeps k f = u_still k

    behaviour_updates : (i c : ℕ) (b : Behaviour) → ResponseNamesIn (size p) (respond e b)
        → Updates (with_store p s) e i (carry c b) (next e look i (carry c b))
    behaviour_updates i c (passive d) f = u_passive
    behaviour_updates i c (active w hs) f = active_updates i c hs (handled e hs) (handled_says e hs) f

    pub updates : (i : ℕ) → i < size p
        → Updates (with_store p s) e i (behaviour_at (with_store p s) i) (next e look i (behaviour_at (with_store p s) i))
    updates i b =
        subst (λ x. Updates (with_store p s) e i x (next e look i x)) (sym (state_at p s i b))
        (behaviour_updates i (at s i) (behaviour_at p i) (response_names p v.known e i))
