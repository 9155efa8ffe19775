-- Independent events commute. An event's new values hang on the actives that it reads alone, since what evaluation
-- looks at is named directly or through passives; and passives are a function of the actives.
use Rattle.lib_base.proofs.Prelude.{ℕ, ◌≤◌, ◌<◌, ◌≡◌, refl, ◌∙◌, sym, ap, subst, true, false, false≢true, true≢false}
use Rattle.lib_base.proofs.Prelude.{and-eq-true_iff, List, length, ext_get_or, eqb, eqb-true, arith}
use Rattle.lib_base.proofs.Tools.{split}
use Rattle.spec_language.specs.Syntax.{Expr, Handler, Behaviour, passive, active, Program}
use Rattle.spec_language.specs.Dependence.{Response, follows, takes, defers, keeps, handled, respond, size, no_event, behaviour_at, response, mentions, needs, is_active, written, writes, Named, in_immediate, in_later, through, Reads, Apart, Independent}
use Rattle.spec_language.specs.Accepted.{NamesIn}
use Rattle.spec_language.specs.Valid.{Valid}
use Rattle.spec_language.proofs.Laws.{named_in, ResponseNamesIn, response_names}
use Rattle.spec_semantics.specs.Meaning.{at, first_phase}
use Rattle.spec_semantics.specs.Event.{event, Consistent}
use Rattle.spec_semantics.proofs.OrderLaws.{by_needs}
use Rattle.spec_semantics.proofs.Solution.{own, first_of, second_of, value_same, pick_same, first_local, first_solves, event_length, event_solves, passives_unique}
use Rattle.spec_semantics.proofs.Handlers.{Says, handled_says}
use Rattle.spec_semantics.proofs.Agreement.{event_consistent}

-- ---- what is written is active, and what is read is a behaviour

pub writes_active : (e : ℕ) (b : Behaviour) → written (respond e b) ≡ true → is_active b ≡ true
writes_active e (passive x) h = absurd (false≢true h)
writes_active e (active c hs) h = refl

module _ (p : Program) (v : Valid p) (e : ℕ) where
  named_at : (i j : ℕ) (r : Response) (x : Expr) → response p e i ≡ r → (ResponseNamesIn (size p) r → NamesIn (size p) x) → mentions j x ≡ true → j < size p
  named_at i j r x q f m = named_in (size p) j x (f (subst (ResponseNamesIn (size p)) q (response_names p v.known e i))) m

  named_below : {j : ℕ} → Named p e j → j < size p
  named_below {j} (in_immediate i {x = x} q m) = named_at i j (takes x) x q (λ h. h) m
  named_below {j} (in_later i {x = x} q m) = named_at i j (defers x) x q (λ h. h) m
  named_below {j} (through {i = i} {x = x} n q m) = named_at i j (follows x) x (ap (respond e) q) (λ h. h) m

-- ---- what is not written is kept

kept_by : (e : ℕ) (s : List ℕ) (first look : ℕ → ℕ) (i : ℕ) (hs : List Handler) (r : Response) → Says e hs r → written r ≡ false
    → second_of s first look i r ≡ at s i
kept_by e s first look i hs (follows x) k h = absurd k
kept_by e s first look i hs (takes x) k h = absurd (true≢false h)
kept_by e s first look i hs (defers x) k h = absurd (true≢false h)
kept_by e s first look i hs keeps k h = refl

kept_at : (e : ℕ) (s : List ℕ) (first look : ℕ → ℕ) (i : ℕ) (b : Behaviour) → is_active b ≡ true → written (respond e b) ≡ false
    → second_of s first look i (respond e b) ≡ at s i
kept_at e s first look i (passive x) a h = absurd (false≢true a)
kept_at e s first look i (active c hs) a h = kept_by e s first look i hs (handled e hs) (handled_says e hs) h

module _ (p : Program) (v : Valid p) (e : ℕ) (declared : e ≤ no_event p) (s : List ℕ) (ls : length s ≡ size p) where
  pub kept : (i : ℕ) → i < size p → is_active (behaviour_at p i) ≡ true → writes p e i ≡ false → at (event p e s) i ≡ at s i
  kept i b a h = event_solves p v e declared s ls i b ∙ kept_at e s (at (first_phase p e s)) (at (event p e s)) i (behaviour_at p i) a h

  -- ---- two stores with the same values of what the event reads
  module _ (t : List ℕ) (lt : length t ≡ size p) (same : (j : ℕ) → Reads p e j → at s j ≡ at t j) where
    immediate_named : (i j : ℕ) (hs : List Handler) (r : Response) → response p e i ≡ r → Says e hs r → needs i j r ≡ true → Named p e j
    immediate_named i j hs (follows x) q k d = absurd k
    immediate_named i j hs (takes x) q k d = in_immediate i q ((and-eq-true_iff _ _).0 d).0
    immediate_named i j hs (defers x) q k d = absurd (false≢true d)
    immediate_named i j hs keeps q k d = absurd (false≢true d)

    named_first : (f g : ℕ → ℕ) (i : ℕ) (b : Behaviour) → behaviour_at p i ≡ b → Named p e i
        → ((j : ℕ) → needs i j (respond e b) ≡ true → Named p e j → f j ≡ g j) → first_of s f i (respond e b) ≡ first_of t g i (respond e b)
    named_first f g i (passive x) q n h = value_same f g x (λ j m. h j m (through n q m))
    named_first f g i (active c hs) q n h =
        first_local s t i (handled e hs) f g (same i (n, ap is_active q))
        (λ j d. h j d (immediate_named i j hs (handled e hs) (ap (respond e) q) (handled_says e hs) d))

    -- what is named has the same first-phase value
    first_named : (i : ℕ) → Named p e i → at (first_phase p e s) i ≡ at (first_phase p e t) i
    first_named i n =
        by_needs p v e declared (λ i. Named p e i → at (first_phase p e s) i ≡ at (first_phase p e t) i) (λ i b h m.
        first_solves p v e declared s ls i b
        ∙ named_first (at (first_phase p e s)) (at (first_phase p e t)) i (behaviour_at p i) refl m h
        ∙ sym (first_solves p v e declared t lt i b)) i (named_below p v e n) n

    second_same : (i : ℕ) (r : Response) (look see : ℕ → ℕ) → response p e i ≡ r → written r ≡ true → is_active (behaviour_at p i) ≡ true
        → at (first_phase p e s) i ≡ first_of s (at (first_phase p e s)) i r → at (first_phase p e t) i ≡ first_of t (at (first_phase p e t)) i r
        → second_of s (at (first_phase p e s)) look i r ≡ second_of t (at (first_phase p e t)) see i r
    second_same i (follows x) look see q w a hs ht = absurd (false≢true w)
    second_same i (takes x) look see q w a hs ht =
        hs
        ∙ value_same (own i (at s i) (at (first_phase p e s))) (own i (at t i) (at (first_phase p e t))) x (λ j m.
        pick_same (eqb i j) _ _ _ _
        (λ u. same i (in_immediate i q (subst (λ k. mentions k x ≡ true) (sym (eqb-true i j u)) m), a))
        (λ u. first_named j (in_immediate i q m)))
        ∙ sym ht
    second_same i (defers x) look see q w a hs ht = value_same (at (first_phase p e s)) (at (first_phase p e t)) x (λ j m. first_named j (in_later i q m))
    second_same i keeps look see q w a hs ht = absurd (false≢true w)

    -- what is written gets the same value
    pub written_same : (i : ℕ) → i < size p → writes p e i ≡ true → at (event p e s) i ≡ at (event p e t) i
    written_same i b w =
        event_solves p v e declared s ls i b
        ∙ second_same i (response p e i) (at (event p e s)) (at (event p e t)) refl w (writes_active e (behaviour_at p i) w)
        (first_solves p v e declared s ls i b) (first_solves p v e declared t lt i b)
        ∙ sym (event_solves p v e declared t lt i b)

-- ---- two events

module _ (p : Program) (v : Valid p) (s : List ℕ) (ls : length s ≡ size p) where
  -- at an active that e writes: f neither writes it nor writes what e reads
  at_written : (e f : ℕ) → e ≤ no_event p → f ≤ no_event p → Apart p e f → Apart p f e → (i : ℕ) → i < size p → writes p e i ≡ true
      → at (event p e (event p f s)) i ≡ at (event p f (event p e s)) i
  at_written e f de df ef fe i b w =
      let unread : (j : ℕ) → Reads p e j → at (event p f s) j ≡ at s j =
      λ j r. kept p v f df s ls j (named_below p v e r.0) r.1 (split (writes p f j) (λ u. absurd ((fe j u).0 r)) (λ u. u)) in
      written_same p v e de (event p f s) (event_length p v f df s ls) s ls unread i b w
      ∙ sym (kept p v f df (event p e s) (event_length p v e de s ls) i b (writes_active e (behaviour_at p i) w) (ef i w).1)

  module _ (e f : ℕ) (de : e ≤ no_event p) (df : f ≤ no_event p) (apart : Independent p e f) where
    actives_commute : (i : ℕ) → i < size p → is_active (behaviour_at p i) ≡ true → at (event p e (event p f s)) i ≡ at (event p f (event p e s)) i
    actives_commute i b a =
        split (writes p e i) (λ w. at_written e f de df apart.0 apart.1 i b w)
        (λ w. split (writes p f i) (λ u. sym (at_written f e df de apart.1 apart.0 i b u))
        (λ u.
        kept p v e de (event p f s) (event_length p v f df s ls) i b a w ∙ kept p v f df s ls i b a u
        ∙ sym (kept p v f df (event p e s) (event_length p v e de s ls) i b a u ∙ kept p v e de s ls i b a w)))

    commute_at : event p e (event p f s) ≡ event p f (event p e s)
    commute_at =
        let le : length (event p e s) ≡ size p = event_length p v e de s ls in
        let lf : length (event p f s) ≡ size p = event_length p v f df s ls in
        let ef : length (event p e (event p f s)) ≡ size p = event_length p v e de (event p f s) lf in
        ext_get_or 0 (event p e (event p f s)) (event p f (event p e s)) (ef ∙ sym (event_length p v f df (event p e s) le)) (λ i h.
        passives_unique p v (at (event p e (event p f s))) (at (event p f (event p e s))) (event_consistent p v e de (event p f s) lf).1
        (event_consistent p v f df (event p e s) le).1 actives_commute i (omega arith))

-- on every store of the right length
pub commute : (p : Program) → Valid p → (e f : ℕ) → e ≤ no_event p → f ≤ no_event p → Independent p e f → (s : List ℕ) → length s ≡ size p
    → event p e (event p f s) ≡ event p f (event p e s)
commute p v e f de df apart s ls = commute_at p v s ls e f de df apart

-- so on every consistent one
pub commute_consistent : (p : Program) → Valid p → (e f : ℕ) → e ≤ no_event p → f ≤ no_event p → Independent p e f → (s : List ℕ) → Consistent p s
    → event p e (event p f s) ≡ event p f (event p e s)
commute_consistent p v e f de df apart s h = commute p v e f de df apart s h.0
