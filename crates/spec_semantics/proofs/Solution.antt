-- The evaluator solves the equations of both phases, and nothing else does. Along the order, what is marked solves its
-- equation and has its needs marked, and what is not marked is as it was: so a behaviour's turn finds the values of its
-- needs, and its own old one.
use Rattle.lib_base.proofs.Prelude.{ℕ, ◌≤◌, ◌<◌, ◌≡◌, refl, ◌∙◌, sym, ap, true, false, Bool, ◌||◌, false≢true}
use Rattle.lib_base.proofs.Prelude.{true≢false, ⊎_elim, List, [], ◌∷◌, length, length-set, set, get_or-set_other}
use Rattle.lib_base.proofs.Prelude.{get_or-set_same, eqb, eqb-true, eq-eqb, arith}
use lib.Seq.{set-get_or}
use Rattle.lib_base.specs.Basics.{pick}
use Rattle.lib_base.proofs.Tools.{by_test}
use Rattle.lib_arith.specs.Functions.{result_of}
use Rattle.spec_language.specs.Syntax.{Expr, con, name, app1, app2, app3, Behaviour, passive, active, Program}
use Rattle.spec_language.specs.Dependence.{Response, follows, takes, defers, keeps, size, no_event, response, respond, behaviour_at, is_active, mentions, needs, depends_on}
use Rattle.spec_language.specs.Order.{early, met_at_once, phase_one}
use Rattle.spec_language.specs.Valid.{Valid}
use Rattle.spec_language.proofs.Laws.{length_up_to, get_d_up_to, depends_within}
use Rattle.spec_semantics.specs.Meaning.{value, at, first_step, in_turn, first_phase}
use Rattle.spec_semantics.specs.Event.{later_phase, event, later_value, again_step}
use Rattle.spec_semantics.proofs.Graph.{Marked, Unmarked, marked_set, stays}
use Rattle.spec_semantics.proofs.OrderLaws.{Ordered, mark_all, unmarked_set, late_needs, length_met, met_late, phase_one_ordered, phase_one_marks, by_needs}

-- ---- the equations

-- the old value for the own name i
abbrev pub own : ℕ → ℕ → (ℕ → ℕ) → ℕ → ℕ
own i old look j = pick (eqb i j) old (look j)

-- what the first-phase value of i is to be, given all of them
abbrev pub first_of : List ℕ → (ℕ → ℕ) → ℕ → Response → ℕ
first_of s look i (follows x) = value look x
first_of s look i (takes x) = value (own i (at s i) look) x
first_of s look i (defers x) = at s i
first_of s look i keeps = at s i

-- what the second-phase value of i is to be, given the first-phase values and all second-phase ones
abbrev pub second_of : List ℕ → (ℕ → ℕ) → (ℕ → ℕ) → ℕ → Response → ℕ
second_of s first look i (follows x) = value look x
second_of s first look i (takes x) = first i
second_of s first look i (defers x) = value first x
second_of s first look i keeps = at s i

abbrev pub Solves : Program → ℕ → List ℕ → (ℕ → ℕ) → Type 0
Solves p e s look = (i : ℕ) → i < size p → look i ≡ first_of s look i (response p e i)

-- every passive has its expression's value
abbrev pub Follows : Program → (ℕ → ℕ) → Type 0
Follows p look = (i : ℕ) (x : Expr) → i < size p → behaviour_at p i ≡ passive x → look i ≡ value look x

-- ---- an expression's value hangs on the names in it

pub or_first : (b c : Bool) → b ≡ true → b || c ≡ true
or_first true c h = refl
or_first false c h = absurd (false≢true h)

pub or_second : (b c : Bool) → c ≡ true → b || c ≡ true
or_second true c h = refl
or_second false c h = h

pub value_same : (f g : ℕ → ℕ) (x : Expr) → ((j : ℕ) → mentions j x ≡ true → f j ≡ g j) → value f x ≡ value g x
unfolding value mentions
value_same f g (con w) h = refl
value_same f g (name i) h = h i (eq-eqb i i refl)
value_same f g (app1 k a) h = ap (λ u. result_of k u 0 0) (value_same f g a h)
value_same f g (app2 k a b) h =
    simp (value_same f g a (λ j m. h j (or_first (mentions j a) (mentions j b) m)), value_same f g b (λ j m. h j (or_second (mentions j a) (mentions j b) m)))
value_same f g (app3 k a b c) h =
    simp (
      value_same f g a (λ j m. h j (or_first (mentions j a) _ m)),
      value_same f g b (λ j m. h j (or_second (mentions j a) _ (or_first (mentions j b) (mentions j c) m))),
      value_same f g c (λ j m. h j (or_second (mentions j a) _ (or_second (mentions j b) (mentions j c) m))),
    )

pub pick_same : {A : Type 0} (b : Bool) (x y u w : A) → (b ≡ true → x ≡ u) → (b ≡ false → y ≡ w) → pick b x y ≡ pick b u w
pick_same true x y u w h k = h refl
pick_same false x y u w h k = k refl

-- where the own name has its old value, no more is said by `own`
pub own_same : (i old : ℕ) (look : ℕ → ℕ) (j : ℕ) → look i ≡ old → look j ≡ own i old look j
own_same i old look j h = by_test (λ y. look j ≡ y) (eqb i j) (λ t. ap look (sym (eqb-true i j t)) ∙ h) (λ t. refl)

pub needed : (i j : ℕ) (x : Expr) → mentions j x ≡ true → eqb i j ≡ false → needs i j (takes x) ≡ true
needed i j x m t = cc

pub first_local : (s t : List ℕ) (i : ℕ) (r : Response) (f g : ℕ → ℕ) → at s i ≡ at t i → ((j : ℕ) → needs i j r ≡ true → f j ≡ g j)
    → first_of s f i r ≡ first_of t g i r
first_local s t i (follows x) f g o h = value_same f g x h
first_local s t i (takes x) f g o h =
    value_same (own i (at s i) f) (own i (at t i) g) x (λ j m. pick_same (eqb i j) _ _ _ _ (λ u. o) (λ u. h j (needed i j x m u)))
first_local s t i (defers x) f g o h = o
first_local s t i keeps f g o h = o

-- ---- one turn sets the place to what the equation says

keep_set : (s : List ℕ) (i old : ℕ) → at s i ≡ old → s ≡ set s i old
keep_set s i old h = sym (set-get_or s i 0) ∙ ap (set s i) h

first_does : (s₀ : List ℕ) (i : ℕ) (r : Response) (s : List ℕ) → at s i ≡ at s₀ i → first_step i r s ≡ set s i (first_of s₀ (at s) i r)
first_does s₀ i (follows x) s h = refl
first_does s₀ i (takes x) s h = ap (set s i) (value_same (at s) (own i (at s₀ i) (at s)) x (λ j m. own_same i (at s₀ i) (at s) j h))
first_does s₀ i (defers x) s h = keep_set s i (at s₀ i) h
first_does s₀ i keeps s h = keep_set s i (at s₀ i) h

-- the second time over
abbrev pub again_of : List ℕ → (ℕ → ℕ) → ℕ → Response → ℕ
again_of s look i (follows x) = value look x
again_of s look i (takes x) = at s i
again_of s look i (defers x) = at s i
again_of s look i keeps = at s i

again_does : (s₀ : List ℕ) (i : ℕ) (r : Response) (s : List ℕ) → at s i ≡ at s₀ i → again_step i r s ≡ set s i (again_of s₀ (at s) i r)
again_does s₀ i (follows x) s h = refl
again_does s₀ i (takes x) s h = keep_set s i (at s₀ i) h
again_does s₀ i (defers x) s h = keep_set s i (at s₀ i) h
again_does s₀ i keeps s h = keep_set s i (at s₀ i) h

again_local : (s : List ℕ) (i : ℕ) (r : Response) (f g : ℕ → ℕ) → ((j : ℕ) → needs i j r ≡ true → f j ≡ g j) → again_of s f i r ≡ again_of s g i r
again_local s i (follows x) f g h = value_same f g x h
again_local s i (takes x) f g h = refl
again_local s i (defers x) f g h = refl
again_local s i keeps f g h = refl

-- ---- along the order

module _ (p : Program) (v : Valid p) (e : ℕ) (step : ℕ → Response → List ℕ → List ℕ) (rhs : ℕ → (ℕ → ℕ) → ℕ) (s₀ : List ℕ)
    (local : (i : ℕ) (f g : ℕ → ℕ) → ((j : ℕ) → depends_on p e i j ≡ true → f j ≡ g j) → rhs i f ≡ rhs i g)
    (does : (i : ℕ) (s : List ℕ) → at s i ≡ at s₀ i → step i (response p e i) s ≡ set s i (rhs i (at s))) where
  abbrev Solved : List Bool → List ℕ → Type 0
  Solved m s = (x : ℕ) → x < size p → Marked m x → (at s x ≡ rhs x (at s)) × ((j : ℕ) → depends_on p e x j ≡ true → Marked m j)

  abbrev Rest : List Bool → List ℕ → Type 0
  Rest m s = (x : ℕ) → Unmarked m x → at s x ≡ at s₀ x

  abbrev Needs : List Bool → ℕ → Type 0
  Needs m i = (j : ℕ) → depends_on p e i j ≡ true → Marked m j

  solved_on : (m : List Bool) (s : List ℕ) (i : ℕ) → length s ≡ size p → length m ≡ size p → i < size p → Unmarked m i → Needs m i → Solved m s
      → Solved (set m i true) (set s i (rhs i (at s)))
  solved_on m s i l z b u d h x c q =
      let w : ℕ = rhs i (at s) in
      let same : (j : ℕ) → Marked m j → at s j ≡ at (set s i w) j = λ j k. sym (get_or-set_other s i j w 0 (λ t. true≢false (sym k ∙ (rw t u)))) in
      let keep : (j : ℕ) → depends_on p e x j ≡ true → Marked m j → Marked (set m i true) j =
      λ j t k. stays m i j (let y = depends_within p v.known e x j t in omega arith) k in
      ⊎_elim
      (λ t. (
        rw t (get_or-set_same s i w 0 (omega arith) ∙ local i (at s) (at (set s i w)) (λ j k. same j (d j k))),
        λ j k. keep j k (d j (rw t at k)),
      ))
      (λ k. let t = h x c k in (sym (same x k) ∙ t.0 ∙ local x (at s) (at (set s i w)) (λ j n. same j (t.1 j n)), λ j n. keep j n (t.1 j n)))
      (marked_set m i x q)

  rest_on : (m : List Bool) (s : List ℕ) (i w : ℕ) → i < length m → Rest m s → Rest (set m i true) (set s i w)
  rest_on m s i w b h x u = let k = unmarked_set m i x b u in get_or-set_other s i x w 0 (λ t. k.0 (sym t)) ∙ h x k.1

  solve : (is : List ℕ) (m : List Bool) (s : List ℕ) → length s ≡ size p → length m ≡ size p → Ordered (size p) (depends_on p e) m is → Solved m s → Rest m s
      → (length (in_turn p e step is s) ≡ size p) × Solved (mark_all is m) (in_turn p e step is s)
  unfolding in_turn
  solve [] m s l z o h k = (l, h)
  solve (i ∷ is) m s l z o h k =
      rw (does i s (k i o.1))
      (solve is (set m i true) (set s i (rhs i (at s))) (simp length-set l) (simp length-set z) o.3 (solved_on m s i l z o.0 o.1 o.2 h)
      (rest_on m s i (rhs i (at s)) (omega arith) k))

-- ---- the second time over, from any store

-- what does not follow an expression starts the second time over as it ends
again_start_law : (r : Response) (t : List ℕ) (look : ℕ → ℕ) (i : ℕ) → early r ≡ false → at t i ≡ again_of t look i r
again_start_law (follows x) t look i h = absurd (true≢false h)
again_start_law (takes x) t look i h = refl
again_start_law (defers x) t look i h = refl
again_start_law keeps t look i h = refl

module _ (p : Program) (v : Valid p) (e : ℕ) (declared : e ≤ no_event p) where
  pub again_solved : (t : List ℕ) → length t ≡ size p
      → (length (in_turn p e again_step (phase_one p e) t) ≡ size p)
      × ((i : ℕ) → i < size p
      → at (in_turn p e again_step (phase_one p e) t) i ≡ again_of t (at (in_turn p e again_step (phase_one p e) t)) i (response p e i))
  again_solved t whole =
      let k = solve p v e again_step (λ i look. again_of t look i (response p e i)) t (λ i f g h. again_local t i (response p e i) f g h)
      (λ i u h. again_does t i (response p e i) u h) (phase_one p e) (met_at_once p e) t whole (length_met p e) (phase_one_ordered p e v.known)
      (λ x b m. let n = met_late p e x b m in (again_start_law (response p e x) t (at t) x n, λ j d. absurd (late_needs x j (response p e x) n d))) (λ x u. refl) in
      (k.0, λ i b. (k.1 i b (phase_one_marks p v e declared i b)).0)

-- ---- both phases

module _ (p : Program) (v : Valid p) (e : ℕ) (declared : e ≤ no_event p) (s : List ℕ) (whole : length s ≡ size p) where
  first_start : (r : Response) (look : ℕ → ℕ) (i : ℕ) → early r ≡ false → at s i ≡ first_of s look i r
  first_start (follows x) look i h = absurd (true≢false h)
  first_start (takes x) look i h = absurd (true≢false h)
  first_start (defers x) look i h = refl
  first_start keeps look i h = refl

  first_solved : (length (first_phase p e s) ≡ size p) × Solves p e s (at (first_phase p e s))
  unfolding first_phase
  first_solved =
      let k = solve p v e first_step (λ i look. first_of s look i (response p e i)) s (λ i f g h. first_local s s i (response p e i) f g refl h)
      (λ i t h. first_does s i (response p e i) t h) (phase_one p e) (met_at_once p e) s whole (length_met p e) (phase_one_ordered p e v.known)
      (λ x b m. let n = met_late p e x b m in (first_start (response p e x) (at s) x n, λ j d. absurd (late_needs x j (response p e x) n d))) (λ x u. refl) in
      (k.0, λ i b. (k.1 i b (phase_one_marks p v e declared i b)).0)

  pub first_length : length (first_phase p e s) ≡ size p
  first_length = first_solved.0

  -- first-phase values
  pub first_solves : Solves p e s (at (first_phase p e s))
  first_solves = first_solved.1

  again_second : (first t : List ℕ) (look : ℕ → ℕ) (i : ℕ) (r : Response) → at t i ≡ later_value first i r → at first i ≡ first_of s (at first) i r
      → again_of t look i r ≡ second_of s (at first) look i r
  again_second first t look i (follows x) h k = refl
  again_second first t look i (takes x) h k = h
  again_second first t look i (defers x) h k = h
  again_second first t look i keeps h k = h ∙ k

  later_phase_length : length (later_phase p e (first_phase p e s)) ≡ size p
  unfolding later_phase
  later_phase_length = length_up_to (size p) _

  later_phase_at : (i : ℕ) → i < size p → at (later_phase p e (first_phase p e s)) i ≡ later_value (first_phase p e s) i (response p e i)
  unfolding later_phase
  later_phase_at i b = get_d_up_to (size p) _ i 0 b

  event_solved : (length (event p e s) ≡ size p)
      × ((i : ℕ) → i < size p → at (event p e s) i ≡ second_of s (at (first_phase p e s)) (at (event p e s)) i (response p e i))
  unfolding event
  event_solved =
      let t : List ℕ = later_phase p e (first_phase p e s) in
      let k = again_solved p v e declared t later_phase_length in
      (k.0, λ i b. k.1 i b ∙ again_second (first_phase p e s) t _ i (response p e i) (later_phase_at i b) (first_solves i b))

  pub event_length : length (event p e s) ≡ size p
  event_length = event_solved.0

  -- second-phase values
  pub event_solves : (i : ℕ) → i < size p → at (event p e s) i ≡ second_of s (at (first_phase p e s)) (at (event p e s)) i (response p e i)
  event_solves = event_solved.1

-- given the actives, no other values of the passives follow their expressions
module _ (p : Program) (v : Valid p) (f g : ℕ → ℕ) (hf : Follows p f) (hg : Follows p g)
    (same : (i : ℕ) → i < size p → is_active (behaviour_at p i) ≡ true → f i ≡ g i) where
  passive_same : (i : ℕ) → i < size p → (b : Behaviour) → behaviour_at p i ≡ b
      → ((j : ℕ) → needs i j (respond (no_event p) b) ≡ true → f j ≡ g j) → f i ≡ g i
  passive_same i h (passive x) t k = hf i x h t ∙ value_same f g x k ∙ sym (hg i x h t)
  passive_same i h (active c hs) t k = same i h (ap is_active t)

  pub passives_unique : (i : ℕ) → i < size p → f i ≡ g i
  passives_unique = by_needs p v (no_event p) (omega arith) (λ i. f i ≡ g i) (λ i h k. passive_same i h (behaviour_at p i) refl k)
