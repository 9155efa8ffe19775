-- Two events that do not meet in a set that depends on nothing outside it commute there. What one of them names in the
-- set has no value that the other writes, but for the own name of a handler that adds; so what one writes alone it
-- writes alike before and after the other, and what both write they add to.
use Rattle.lib_base.proofs.Prelude.{ℕ, ◌≤◌, ◌<◌, ◌≡◌, refl, ◌∙◌, sym, ap, subst, true, false, false≢true, true≢false}
use Rattle.lib_base.proofs.Prelude.{◌≢◌, List, length, eqb, ne_eqb, eqb-true, eq-eqb, eqb-false}
use Rattle.lib_base.proofs.Tools.{split}
use Rattle.spec_language.specs.Syntax.{Expr, Handler, Behaviour, passive, active, Program}
use Rattle.spec_language.specs.Dependence.{Response, follows, takes, defers, keeps, handled, respond, size, no_event, behaviour_at, response, needs, is_active, written, writes}
use Rattle.spec_language.specs.Valid.{Valid}
use Rattle.spec_semantics.specs.Meaning.{at, first_phase}
use Rattle.spec_semantics.specs.Event.{event}
use Rattle.spec_semantics.proofs.Solution.{own, first_of, second_of, value_same, first_solves, event_length, event_solves}
use Rattle.spec_semantics.proofs.Agreement.{event_consistent}
use Rattle.spec_semantics.proofs.Commute.{kept, writes_active}
use Rattle.spec_semantics.proofs.Handlers.{Says, handled_says}
use Rattle.check_reads.specs.InResponse.{in_response}
use Rattle.ask_commute.specs.Meets.{Via, itself, passing, ReadsAt, AddsIn, AddsTo}
use Rattle.ask_commute.proofs.Adding.{SameBut, Shift, shift_over, adds_shift, shifts_commute}
use Rattle.ask_commute.proofs.OnSet.{needs_named, named_below, first_on, Closed, Agree, needed_in_law, passives_on}

-- ---- what is written is active, and an active leads to itself alone

no_passive : (b : Behaviour) (x : Expr) → is_active b ≡ true → b ≡ passive x → ⊥
no_passive b x a q = true≢false (sym a ∙ ap is_active q)

via_active : {p : Program} {k j : ℕ} → is_active (behaviour_at p k) ≡ true → Via p k j → k ≡ j
via_active a itself = refl
via_active {p} {k} a (passing {x = x} q m u) = absurd (no_passive (behaviour_at p k) x a q)

-- an active that needs something is written
needing_handled : (e i j : ℕ) (hs : List Handler) (r : Response) → Says e hs r → needs i j r ≡ true → written r ≡ true
needing_handled e i j hs (follows x) k h = absurd k
needing_handled e i j hs (takes x) k h = refl
needing_handled e i j hs (defers x) k h = refl
needing_handled e i j hs keeps k h = absurd (false≢true h)

needing_written : (e i j : ℕ) (b : Behaviour) → is_active b ≡ true → needs i j (respond e b) ≡ true → written (respond e b) ≡ true
needing_written e i j (passive x) a h = absurd (false≢true a)
needing_written e i j (active c hs) a h = needing_handled e i j hs (handled e hs) (handled_says e hs) h

-- what f writes in the set, e reads in no other handler there; and where both write, e adds
abbrev pub Clear : Program → (ℕ → Type 0) → ℕ → ℕ → Type 0
Clear p D e f =
    (j : ℕ) → D j → writes p f j ≡ true
    → ((i : ℕ) → D i → i ≢ j → ReadsAt p e i j → ⊥) × (writes p e j ≡ true → AddsTo p e j)

module _ (p : Program) (v : Valid p) (D : ℕ → Type 0) (closed : Closed p D) where
  -- what is led to stays in the set
  via_in : {k j : ℕ} → D k → Via p k j → D j
  via_in m itself = m
  via_in {k} m (passing {i = i} {x = x} q n u) = via_in (closed 0 k i m (subst (λ (b : Behaviour). in_response i (respond 0 b) ≡ true) (sym q) n)) u

  module _ (s : List ℕ) (ls : length s ≡ size p) where
    -- ---- e on the store s and on the one that f leaves

    module _ (e f : ℕ) (de : e ≤ no_event p) (df : f ≤ no_event p) (clear : Clear p D e f) where
      abbrev t : List ℕ
      t = event p f s

      lt : length t ≡ size p
      lt = event_length p v f df s ls

      -- in the set, and leading to nothing that f writes
      abbrev Calm : ℕ → Type 0
      Calm k = D k × ((j : ℕ) → writes p f j ≡ true → Via p k j → ⊥)

      -- what e's handler of i names is calm, but for what leads to i where f writes i
      names_calm : (i k : ℕ) → D i → writes p e i ≡ true → in_response k (response p e i) ≡ true → (writes p f i ≡ true → Via p k i → ⊥) → Calm k
      names_calm i k m w n h = (
        closed e i k m n,
        λ j u q. split (eqb i j)
            (λ z. let r : i ≡ j = eqb-true i j z in h (subst (λ (x : ℕ). writes p f x ≡ true) (sym r) u) (subst (Via p k) (sym r) q))
            (λ z. (clear j (via_in (closed e i k m n) q) u).0 i m (eqb-false i j z) (w, (k, n, q))),
      )

      calm_needs : (i j : ℕ) (b : Behaviour) → behaviour_at p i ≡ b → Calm i → needs i j (respond e b) ≡ true → Calm j
      calm_needs i j (passive x) q m d = (
        needed_in_law p v D closed e i j m.0 (subst (λ (b : Behaviour). needs i j (respond e b) ≡ true) (sym q) d),
        λ k u r. m.1 k u (passing q d r),
      )
      calm_needs i j (active c hs) q m d =
          let n : needs i j (response p e i) ≡ true = subst (λ (b : Behaviour). needs i j (respond e b) ≡ true) (sym q) d in
          names_calm i j m.0 (needing_written e i j (behaviour_at p i) (ap is_active q) n) (needs_named i j (response p e i) n)
          (λ u r. m.1 i u itself)

      first_calm : (i : ℕ) → i < size p → Calm i → at (first_phase p e s) i ≡ at (first_phase p e t) i
      first_calm =
          first_on p v e de s t ls lt Calm (λ i j m d. calm_needs i j (behaviour_at p i) refl m d)
          (λ i b m a. sym (kept p v f df s ls i b a (split (writes p f i) (λ u. absurd (m.1 i u itself)) (λ u. u))))

      named_calm : (i k : ℕ) → D i → writes p e i ≡ true → in_response k (response p e i) ≡ true → (writes p f i ≡ true → Via p k i → ⊥)
          → at (first_phase p e s) k ≡ at (first_phase p e t) k
      named_calm i k m w n h = first_calm k (named_below p v e i k n) (names_calm i k m w n h)

      -- ---- what e writes and f does not, it writes alike

      alike : (i : ℕ) (r : Response) (look see : ℕ → ℕ) → written r ≡ true → at (first_phase p e s) i ≡ at (first_phase p e t) i
          → ((k : ℕ) → in_response k r ≡ true → at (first_phase p e s) k ≡ at (first_phase p e t) k)
          → second_of s (at (first_phase p e s)) look i r ≡ second_of t (at (first_phase p e t)) see i r
      alike i (follows x) look see w o h = absurd (false≢true w)
      alike i (takes x) look see w o h = o
      alike i (defers x) look see w o h = value_same (at (first_phase p e s)) (at (first_phase p e t)) x h
      alike i keeps look see w o h = absurd (false≢true w)

      writes_alike : (i : ℕ) → i < size p → D i → writes p e i ≡ true → writes p f i ≡ false → at (event p e s) i ≡ at (event p e t) i
      writes_alike i b m w u =
          let a : is_active (behaviour_at p i) ≡ true = writes_active e (behaviour_at p i) w in
          event_solves p v e de s ls i b
          ∙ alike i (response p e i) (at (event p e s)) (at (event p e t)) w
          (first_calm i b (m, λ j z q. true≢false (sym z ∙ (subst (λ (x : ℕ). writes p f x ≡ false) (via_active {p = p} a q) u))))
          (λ k n. named_calm i k m w n (λ z. absurd (true≢false (sym z ∙ u))))
          ∙ sym (event_solves p v e de t lt i b)

      -- ---- what both write, e adds to

      own_is : (i old : ℕ) (look : ℕ → ℕ) → own i old look i ≡ old
      own_is i old look = rw (eq-eqb i i refl)

      own_other : (i j old : ℕ) (look : ℕ → ℕ) → i ≢ j → own i old look j ≡ look j
      own_other i j old look h = rw (ne_eqb i j h)

      not_own : (i j : ℕ) → (Via p j i → ⊥) → i ≢ j
      not_own i j h q = h (subst (Via p j) (sym q) itself)

      shifted : (i : ℕ) (r : Response) (look see : ℕ → ℕ) → AddsIn p i r → written r ≡ true
          → at (first_phase p e s) i ≡ first_of s (at (first_phase p e s)) i r → at (first_phase p e t) i ≡ first_of t (at (first_phase p e t)) i r
          → ((k : ℕ) → in_response k r ≡ true → (Via p k i → ⊥) → at (first_phase p e s) k ≡ at (first_phase p e t) k)
          → Shift (second_of s (at (first_phase p e s)) look i r) (second_of t (at (first_phase p e t)) see i r) (at s i) (at t i)
      shifted i (follows x) look see a w hs ht h = absurd a
      shifted i (takes x) look see a w hs ht h =
          let old = own i (at s i) (at (first_phase p e s)) in
          let new = own i (at t i) (at (first_phase p e t)) in
          let same : SameBut p i old new x =
          λ j m n. own_other i j (at s i) (at (first_phase p e s)) (not_own i j n) ∙ h j m n ∙ sym (own_other i j (at t i) (at (first_phase p e t)) (not_own i j n)) in
          shift_over (sym hs) (sym ht) (own_is i (at s i) (at (first_phase p e s))) (own_is i (at t i) (at (first_phase p e t))) (adds_shift p i old new a same)
      shifted i (defers x) look see a w hs ht h =
          shift_over refl refl hs ht (adds_shift p i (at (first_phase p e s)) (at (first_phase p e t)) a h)
      shifted i keeps look see a w hs ht h = absurd a

      adds_there : (i : ℕ) → i < size p → D i → writes p e i ≡ true → writes p f i ≡ true
          → Shift (at (event p e s) i) (at (event p e t) i) (at s i) (at t i)
      adds_there i b m w u =
          shift_over (sym (event_solves p v e de s ls i b)) (sym (event_solves p v e de t lt i b)) refl refl
          (shifted i (response p e i) (at (event p e s)) (at (event p e t)) ((clear i m u).1 w) w (first_solves p v e de s ls i b)
          (first_solves p v e de t lt i b) (λ k n h. named_calm i k m w n (λ z q. h q)))

      -- an active that e alone writes
      alone : (i : ℕ) → i < size p → D i → writes p e i ≡ true → writes p f i ≡ false → at (event p e (event p f s)) i ≡ at (event p f (event p e s)) i
      alone i b m w u =
          sym (writes_alike i b m w u)
          ∙ sym (kept p v f df (event p e s) (event_length p v e de s ls) i b (writes_active e (behaviour_at p i) w) u)

    -- ---- both orders

    module _ (e f : ℕ) (de : e ≤ no_event p) (df : f ≤ no_event p) (ef : Clear p D e f) (fe : Clear p D f e) where
      le : length (event p e s) ≡ size p
      le = event_length p v e de s ls

      lf : length (event p f s) ≡ size p
      lf = event_length p v f df s ls

      actives_commute : (i : ℕ) → i < size p → D i → is_active (behaviour_at p i) ≡ true → at (event p e (event p f s)) i ≡ at (event p f (event p e s)) i
      actives_commute i b m a =
          split (writes p e i)
          (λ w. split (writes p f i)
          (λ u. shifts_commute (at s i) (at (event p e s) i) (at (event p e (event p f s)) i) (at (event p f s) i) (at (event p f (event p e s)) i)
          (adds_there e f de df ef i b m w u) (adds_there f e df de fe i b m u w))
          (λ u. alone e f de df ef i b m w u))
          (λ w. split (writes p f i) (λ u. sym (alone f e df de fe i b m u w))
          (λ u.
          kept p v e de (event p f s) lf i b a w ∙ kept p v f df s ls i b a u
          ∙ sym (kept p v f df (event p e s) le i b a u ∙ kept p v e de s ls i b a w)))

      pub commute_on : Agree p D (event p e (event p f s)) (event p f (event p e s))
      commute_on =
          passives_on p v D closed (at (event p e (event p f s))) (at (event p f (event p e s))) (event_consistent p v e de (event p f s) lf).1
          (event_consistent p v f df (event p e s) le).1 actives_commute
