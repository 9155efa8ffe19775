-- "After the same commits, each half of the joined board equals that sheet's own board, events that it doesn't declare
-- being passed over." The values of a part satisfy its own equations, and these have one solution (crate
-- spec_semantics): first-phase values and passives by induction over needs.
use Rattle.lib_base.proofs.Prelude.{ℕ, ◌≤◌, ◌<◌, ◌+◌, ◌-◌, ◌≡◌, refl, ◌∙◌, sym, ap, true, false≢true, by_cases, List}
use Rattle.lib_base.proofs.Prelude.{[], ◌∷◌, ◌++◌, length, length-append, List·getD-append, ext_get_or, get_or-append-add}
use Rattle.lib_base.proofs.Prelude.{ltb, dec_lt, ltb-false, ltb-true, arith}
use Rattle.lib_base.specs.Basics.{All}
use Rattle.lib_base.proofs.Tools.{split, by_elim, all_at}
use Rattle.spec_language.specs.Syntax.{Expr, Behaviour, passive, active, Program}
use Rattle.spec_language.specs.Dependence.{Response, follows, takes, defers, keeps, respond, size, events, no_event, behaviour_at, response, needs, is_active}
use Rattle.spec_language.specs.Fits.{BehaviourFits}
use Rattle.spec_language.specs.Valid.{Valid}
use Rattle.spec_language.proofs.Laws.{get_d_up_to, named_in, ResponseNamesIn, response_names}
use Rattle.spec_semantics.specs.Meaning.{value, at, first_phase, start_of, starts, fresh}
use Rattle.spec_semantics.specs.Event.{event, play, Consistent}
use Rattle.spec_semantics.proofs.OrderLaws.{by_needs}
use Rattle.spec_semantics.proofs.Solution.{first_of, second_of, value_same, first_local, first_solves, event_length, event_solves, passives_unique}
use Rattle.spec_semantics.proofs.Handlers.{undeclared_keeps}
use Rattle.spec_semantics.proofs.Lengths.{length_starts, length_fresh}
use Rattle.spec_semantics.proofs.Agreement.{event_consistent, fresh_consistent}
use Rattle.spec_semantics.specs.Plays.{Plays}
use Rattle.spec_semantics.proofs.PlaysLaws.{plays, plays_alone}
use Rattle.link_pooled.specs.Together.{move_expr, move_behaviour, together}
use Rattle.link_pooled.specs.Declared.{declared}
use Rattle.link_pooled.proofs.Moving.{Part, move_response, value_moved, first_moved, second_moved, response_moved, size_together, first_part, second_part_law}

-- ---- one part p of r, its behaviours from number n on

module _ {p r : Program} {n : ℕ} (part : Part p r n) (vp : Valid p) (vr : Valid r) where
  -- a store of r has the values of s in its part
  abbrev pub Holds : List ℕ → List ℕ → Type 0
  Holds t s = (i : ℕ) → i < size p → at t (n + i) ≡ at s i

  -- the passives of a part follow their expressions
  part_follows : (t : List ℕ) → Consistent r t → (i : ℕ) (x : Expr) → i < size p → behaviour_at p i ≡ passive x → at t (n + i) ≡ value (λ j. at t (n + j)) x
  part_follows t h i x b q =
      h.1 (n + i) (move_expr n x) (omega (arith, part.inside)) (part.moved i b ∙ ap (move_behaviour n) q)
      ∙ value_moved n (at t) x

  -- with the same actives, the passives are the same
  same_passives : (t s : List ℕ) → Consistent r t → Consistent p s → ((i : ℕ) → i < size p → is_active (behaviour_at p i) ≡ true → at t (n + i) ≡ at s i) → Holds t s
  same_passives t s h k a = passives_unique p vp (λ i. at t (n + i)) (at s) (part_follows t h) k.1 a

  module _ (e : ℕ) (er : e ≤ no_event r) (t s : List ℕ) (lt : length t ≡ size r) (ls : length s ≡ size p) (same : Holds t s) where
    module _ (ep : e ≤ no_event p) where
      first_half : (i : ℕ) → i < size p → at (first_phase r e t) (n + i) ≡ at (first_phase p e s) i
      first_half =
          by_needs p vp e ep (λ i. at (first_phase r e t) (n + i) ≡ at (first_phase p e s) i) (λ i b h.
          first_solves r vr e er t lt (n + i) (omega (arith, part.inside))
          ∙ ap (first_of t (at (first_phase r e t)) (n + i)) (response_moved part e i b)
          ∙ first_moved n s t (at (first_phase r e t)) i (response p e i) (same i b)
          ∙ first_local s s i (response p e i) (λ j. at (first_phase r e t) (n + j)) (at (first_phase p e s)) refl h
          ∙ sym (first_solves p vp e ep s ls i b))

      second_local : (i : ℕ) → i < size p → (q : Response) → ResponseNamesIn (size p) q
          → ((j : ℕ) → needs i j q ≡ true → at (event r e t) (n + j) ≡ at (event p e s) j)
          → second_of s (λ j. at (first_phase r e t) (n + j)) (λ j. at (event r e t) (n + j)) i q ≡ second_of s (at (first_phase p e s)) (at (event p e s)) i q
      second_local i b (follows x) w h = value_same (λ j. at (event r e t) (n + j)) (at (event p e s)) x h
      second_local i b (takes x) w h = first_half i b
      second_local i b (defers x) w h = value_same (λ j. at (first_phase r e t) (n + j)) (at (first_phase p e s)) x (λ j m. first_half j (named_in (size p) j x w m))
      second_local i b keeps w h = refl

      event_half : Holds (event r e t) (event p e s)
      event_half =
          by_needs p vp e ep (λ i. at (event r e t) (n + i) ≡ at (event p e s) i) (λ i b h.
          event_solves r vr e er t lt (n + i) (omega (arith, part.inside))
          ∙ ap (second_of t (at (first_phase r e t)) (at (event r e t)) (n + i)) (response_moved part e i b)
          ∙ second_moved n s t (at (first_phase r e t)) (at (event r e t)) i (response p e i) (same i b)
          ∙ second_local i b (response p e i) (response_names p vp.known e i) h
          ∙ sym (event_solves p vp e ep s ls i b))

    -- an event that the part does not declare passes it over
    module _ (over : events p ≤ e) (consistent : Consistent p s) where
      kept_active : (i : ℕ) → i < size p → (b : Behaviour) → BehaviourFits (events p) b → is_active b ≡ true → respond e b ≡ keeps
      kept_active i h (passive x) f a = absurd (false≢true a)
      kept_active i h (active c hs) f a = undeclared_keeps (events p) e hs over f.1

      event_over_law : Holds (event r e t) s
      event_over_law =
          same_passives (event r e t) s (event_consistent r vr e er t lt) consistent (λ i b a.
          event_solves r vr e er t lt (n + i) (omega (arith, part.inside))
          ∙ ap (second_of t (at (first_phase r e t)) (at (event r e t)) (n + i)) (response_moved part e i b)
          ∙ ap (λ (q : Response). second_of t (at (first_phase r e t)) (at (event r e t)) (n + i) (move_response n q))
          (kept_active i b (behaviour_at p i) (all_at (BehaviourFits (events p)) p.behaviours i (active 0 []) vp.each b) a)
          ∙ same i b)

-- ---- a fresh round

start_moved : (n : ℕ) (b : Behaviour) → start_of (move_behaviour n b) ≡ start_of b
start_moved n (passive x) = refl
start_moved n (active c hs) = refl

active_moved : (n : ℕ) (b : Behaviour) → is_active (move_behaviour n b) ≡ is_active b
active_moved n (passive x) = refl
active_moved n (active c hs) = refl

-- the start value of an active
fresh_active : (p : Program) → Valid p → (i : ℕ) → i < size p → is_active (behaviour_at p i) ≡ true → at (fresh p) i ≡ start_of (behaviour_at p i)
unfolding fresh starts
fresh_active p v i b a =
    first_solves p v (no_event p) (omega arith) (starts p) (length_starts p) i b
    ∙ still (behaviour_at p i) (all_at (BehaviourFits (no_event p)) p.behaviours i (active 0 []) v.each b) a
    ∙ get_d_up_to (size p) _ i 0 b
  where
    still : (c : Behaviour) → BehaviourFits (no_event p) c → is_active c ≡ true → first_of (starts p) (at (first_phase p (no_event p) (starts p))) i (respond (no_event p) c) ≡ at (starts p) i
    still (passive x) f h = absurd (false≢true h)
    still (active c hs) f h = ap (first_of (starts p) (at (first_phase p (no_event p) (starts p))) i) (undeclared_keeps (no_event p) (no_event p) hs (omega arith) f.1)

module _ {p r : Program} {n : ℕ} (part : Part p r n) (vp : Valid p) (vr : Valid r) where
  fresh_half : Holds part vp vr (fresh r) (fresh p)
  fresh_half =
      same_passives part vp vr (fresh r) (fresh p) (fresh_consistent r vr) (fresh_consistent p vp) (λ i b a.
      fresh_active r vr (n + i) (omega (arith, part.inside)) (ap is_active (part.moved i b) ∙ active_moved n (behaviour_at p i) ∙ a)
      ∙ ap start_of (part.moved i b)
      ∙ start_moved n (behaviour_at p i)
      ∙ sym (fresh_active p vp i b a))

  -- what one event of the whole does to the part, and to the events that it declares
  record Onward (e : ℕ) (t s : List ℕ) : Type 0 where
    next : List ℕ
    consistent : Consistent p next
    holds : Holds part vp vr (event r e t) next
    plays : (es : List ℕ) → play p (declared p (e ∷ es)) s ≡ play p (declared p es) next

  onward : (e : ℕ) → e ≤ no_event r → (t s : List ℕ) → length t ≡ size r → Consistent p s → Holds part vp vr t s → Onward e t s
  unfolding declared play
  onward e er t s lt h same =
      split (ltb e (events p))
      (λ d. let ep : e ≤ no_event p = omega (arith, ltb-true e (events p) d) in record {
        next = event p e s;
        consistent = event_consistent p vp e ep s h.0;
        holds = event_half part vp vr e er t s lt h.0 same ep;
        plays = λ es. rw (d, declared);
      })
      (λ d. record {
        next = s;
        consistent = h;
        holds = event_over_law part vp vr e er t s lt h.0 same (ltb-false e (events p) d) h;
        plays = λ es. rw (d, declared);
      })

declared_in_law : (p : Program) (es : List ℕ) → All (λ e. e < events p) (declared p es)
unfolding declared
declared_in_law p [] = tt
declared_in_law p (e ∷ es) = by_elim (All (λ e. e < events p)) (ltb e (events p)) (λ d. (ltb-true e (events p) d, declared_in_law p es)) (λ d. declared_in_law p es)

-- ---- both parts

module _ (p q : Program) (vp : Valid p) (vq : Valid q) (v : Valid (together p q)) where
  abbrev one : Part p (together p q) 0
  one = first_part p q

  abbrev two : Part q (together p q) (size p)
  two = second_part_law p q

  in_a_row : (t s u : List ℕ) → length t ≡ size (together p q) → length s ≡ size p → length u ≡ size q → Holds one vp v t s → Holds two vq v t u → t ≡ s ++ u
  in_a_row t s u lt ls lu h k =
      ext_get_or 0 t (s ++ u) (lt ∙ size_together p q ∙ sym (length-append s u ∙ rw (ls, lu))) (λ i b.
      by_cases (dec_lt i (size p))
      (λ c. let z : i ≡ 0 + i = omega arith in ap (at t) z ∙ h i c ∙ sym (List·getD-append s u 0 i (omega arith)))
      (λ c.
      let m : ℕ = i - size p in
      let z : i ≡ size p + m = omega arith in
      let y : i ≡ length s + m = omega arith in
      let g : m < size q = omega (arith, size_together p q) in
      ap (at t) z ∙ k m g ∙ sym (ap (at (s ++ u)) y ∙ get_or-append-add s u m 0)))

  holds_one : (s u : List ℕ) → length s ≡ size p → Holds one vp v (s ++ u) s
  holds_one s u l i b = let z : 0 + i ≡ i = omega arith in ap (at (s ++ u)) z ∙ List·getD-append s u 0 i (omega arith)

  holds_two : (s u : List ℕ) → length s ≡ size p → Holds two vq v (s ++ u) u
  holds_two s u l i b = rw (sym l) (get_or-append-add s u i 0)

  pub play_halves : (es : List ℕ) → All (λ e. e < events (together p q)) es → (s u : List ℕ) → Consistent p s → Consistent q u
      → play (together p q) es (s ++ u) ≡ play p (declared p es) s ++ play q (declared q es) u
  unfolding play declared
  play_halves [] h s u hs hu = refl
  play_halves (e ∷ es) h s u hs hu =
      let d : e ≤ no_event (together p q) = omega (arith, h.0) in
      let l : length (s ++ u) ≡ size (together p q) = length-append s u ∙ rw (hs.0, hu.0) (sym (size_together p q)) in
      let a = onward one vp v e d (s ++ u) s l hs (holds_one s u hs.0) in
      let b = onward two vq v e d (s ++ u) u l hu (holds_two s u hs.0) in
      let w : event (together p q) e (s ++ u) ≡ a.next ++ b.next =
      in_a_row (event (together p q) e (s ++ u)) a.next b.next (event_length (together p q) v e d (s ++ u) l) a.consistent.0 b.consistent.0 a.holds b.holds in
      ap (play (together p q) es) w ∙ play_halves es h.1 a.next b.next a.consistent b.consistent ∙ sym (rw (a.plays es, b.plays es))

  -- the joined board is the two boards in a row
  pub halves : (es : List ℕ) → All (λ e. e < events (together p q)) es
      → play (together p q) es (fresh (together p q)) ≡ play p (declared p es) (fresh p) ++ play q (declared q es) (fresh q)
  halves es h =
      ap (play (together p q) es)
      (in_a_row (fresh (together p q)) (fresh p) (fresh q) (length_fresh (together p q)) (length_fresh p) (length_fresh q) (fresh_half one vp v) (fresh_half two vq v))
      ∙ play_halves es h (fresh p) (fresh q) (fresh_consistent p vp) (fresh_consistent q vq)

  -- and by Figure 1's rules: whatever they lead to is what they lead to for each, in a row
  pub rules_halves : (es : List ℕ) → All (λ e. e < events (together p q)) es → (last : List ℕ) → Plays (together p q) es (fresh (together p q)) last
      → (s : List ℕ) × (u : List ℕ) × Plays p (declared p es) (fresh p) s × Plays q (declared q es) (fresh q) u × (last ≡ s ++ u)
  rules_halves es h last k = (
    play p (declared p es) (fresh p),
    play q (declared q es) (fresh q),
    plays p vp (declared p es) (declared_in_law p es) (fresh p) (length_fresh p),
    plays q vq (declared q es) (declared_in_law q es) (fresh q) (length_fresh q),
    plays_alone (together p q) v es h (fresh (together p q)) last (length_fresh (together p q)) k ∙ halves es h,
  )
