-- The search passes every behaviour in every turn, and finds a walk if there is a circle at all; no circle has fewer
-- members than that walk has steps.
use Rattle.lib_base.proofs.Prelude.{ℕ, ◌≤◌, ◌<◌, ◌+◌, ◌-◌, suc, zero, ◌*◌, ◌≡◌, refl, ◌∙◌, sym, ap, true, false}
use Rattle.lib_base.proofs.Prelude.{by_cases, ◌⊎◌, inr, inl, List, [], ◌∷◌, ◌++◌, length, take, drop}
use Rattle.lib_base.proofs.Prelude.{take-append_seam, ltb, dec_lt, ne_eqb}
use Rattle.lib_base.proofs.Prelude.{le-ltb, lt-ltb, leb-true, lt-leb, le-leb, arith}
use Rattle.std.specs.Prelude.{Option, Some, None, IsSome}
use Rattle.check_graph.specs.Matrix.{cell, cell_below}
use Rattle.check_graph.proofs.Any.{any_member}
use Rattle.check_faults.specs.Checks.{matrix_on, closed_on, cyclic_on}
use Rattle.check_distance.specs.Circle.{Circle}
use Rattle.check_distance.specs.Layers.{layer, steps_back, Layered, Back, BackIfAny, Walked}
use Rattle.check_distance.proofs.Walks.{least_from_law, least_holds, circle_back, back_decides, layer_same, back_same, walked_same}
use Rattle.check_shortest.specs.Search.{back_on, event_of_turn, shorter_of, Passed, Fewest, FewestIfAny, Earliest, EarliestIfAny, Wide, CircleMembers, handed, ShortestFound}
use Rattle.check_shortest.specs.declared.Walk.{Walk}
use Rattle.check_shortest.specs.EventNumber.{event_number}

-- ---- the turns

turn_none : (ev : ℕ) → event_of_turn ev 0 ≡ ev
unfolding event_of_turn
turn_none ev = refl

turn_more : (ev t : ℕ) → event_of_turn ev (suc t) ≡ t
unfolding event_of_turn
turn_more ev t = let z : suc t - 1 ≡ t = omega arith in rw (ne_eqb (suc t) 0 (λ e. omega arith)) z

-- each event has one, of at most ev
has_turn : (ev f : ℕ) → f ≤ ev → (t : ℕ) × (t ≤ ev) × (event_of_turn ev t ≡ f)
has_turn ev f h =
    by_cases (dec_lt f ev) (λ s. (suc f, omega arith, turn_more ev f)) (λ s. let q : ev ≡ f = omega arith in (0, omega arith, turn_none ev ∙ q))

turn_declared : (ev t : ℕ) → t ≤ ev → event_of_turn ev t ≤ ev
turn_declared ev zero h = rw (turn_none ev) (omega arith)
turn_declared ev (suc t) h = rw (turn_more ev t) (omega arith)

-- ---- the steps back

back_least : (d : List ℕ) (e n i : ℕ) → 1 ≤ back_on d e n i
unfolding back_on steps_back
back_least d e n i = least_from_law (λ k. layer (λ a b. cell (matrix_on d e n) a b) n k i i) n 1

pub back_holds : (d : List ℕ) (e n i : ℕ) → back_on d e n i ≤ n → layer (λ a b. cell (matrix_on d e n) a b) n (back_on d e n i) i i ≡ true
unfolding back_on steps_back
back_holds d e n i h = least_holds (λ k. layer (λ a b. cell (matrix_on d e n) a b) n k i i) n 1 (omega arith)

-- ---- what is found

-- walk w, of the fewest steps on all events and none
pub record Best (d : List ℕ) (ev n : ℕ) (w : Walk) : Type 0 where
  pub event : w.event ≤ ev
  pub member : w.behaviour < n
  pub steps : w.steps ≡ back_on d w.event n w.behaviour
  pub few : w.steps ≤ n
  pub least : (f j : ℕ) → f ≤ ev → j < n → w.steps ≤ back_on d f n j
  pub none_first : (j : ℕ) → j < n → back_on d ev n j ≤ w.steps → w.event ≡ ev

module _ (d : List ℕ) (ev n : ℕ) (few : n ≤ 64) (long : Wide d ev n) where
  -- a circle on some event leads back in at most n steps
  cyclic_back : cyclic_on d ev n ≡ true → (e a : ℕ) × (e ≤ ev) × (a < n) × (back_on d e n a ≤ n)
  unfolding cyclic_on closed_on back_on
  cyclic_back h =
      let w = any_member (ev + 1) _ h in
      let v = any_member n _ w.2 in
      let m = matrix_on d w.0 n in
      let b = leb-true (steps_back (λ x y. cell m x y) n v.0) n (back_decides m n (long w.0 (omega (arith, w.1))) few v.0 v.1 ∙ v.2) in
      (w.0, v.0, omega (arith, w.1), v.1, b)

  -- once all turns are passed, each behaviour is on each event
  pub found_some : cyclic_on d ev n ≡ true → (o : Option Walk) → FewestIfAny d ev n (ev + 1) 0 o → IsSome o
  found_some h None none =
      let c = cyclic_back h in
      let w = has_turn ev c.0 c.2 in
      let past = none w.0 c.1 (c.3, inl (omega (arith, w.1))) in
      absurd (omega (arith, rw w.2 at past, c.4))
  found_some h (Some w) f = refl

  pub best_is : (w : Walk) → Fewest d ev n (ev + 1) 0 w → Best d ev n w
  best_is w f = record {
    event = rw f.event (turn_declared ev f.turn (turn_passed f.passed.1));
    member = f.passed.0;
    steps = f.steps;
    few = f.few;
    least = λ e j h b. let t = has_turn ev e h in
        rw t.2 at (f.least t.0 j (b, inl (omega (arith, t.1))));
    none_first = λ j b h. first f.turn (λ p. let q = f.earlier 0 j (b, inl (omega arith)) p in omega (arith, rw (turn_none ev) at q, h)) f.event;
  }
    where
      turn_passed : {t j : ℕ} → (t < ev + 1) ⊎ ((t ≡ ev + 1) × (j < 0)) → t ≤ ev
      turn_passed (inl h) = omega arith
      turn_passed (inr h) = absurd (omega (arith, h.1))

      first : (t : ℕ) → (0 < t → ⊥) → w.event ≡ event_of_turn ev t → w.event ≡ ev
      first t z q = let o : t ≡ 0 = by_cases (dec_lt 0 t) (λ p. absurd (z p)) (λ p. omega arith) in q ∙ ap (event_of_turn ev) o ∙ turn_none ev

  -- no circle has fewer members
  pub none_shorter : (w : Walk) → Best d ev n w → (f : ℕ) → f ≤ ev → (l : List ℕ) → Circle (cell_below n (matrix_on d f n)) l → w.steps ≤ length l
  unfolding back_on
  none_shorter w b f h [] c = absurd c
  none_shorter w b f h (a ∷ l) c =
      let v = circle_back (matrix_on d f n) n a l c in
      omega (arith, b.least f a h v.0, v.1)

  -- where one under none has as few, none is found
  pub none_goes_first : (w : Walk) → Best d ev n w → (l : List ℕ) → Circle (cell_below n (matrix_on d ev n)) l → length l ≤ w.steps → w.event ≡ ev
  unfolding back_on
  none_goes_first w b [] c h = absurd c
  none_goes_first w b (a ∷ l) c h =
      let v = circle_back (matrix_on d ev n) n a l c in
      b.none_first a v.0 (omega (arith, v.1))

-- ---- the loops

-- the matrix m is the draft's on event e, among the first n
abbrev pub Alike : List ℕ → List ℕ → ℕ → ℕ → Type 0
Alike m d e n = (a b : ℕ) → a < n → b < n → cell m a b ≡ cell (matrix_on d e n) a b

pub back_as : (d : List ℕ) (e n i : ℕ) {m s : List ℕ} {r : ℕ} → Alike m d e n → i < n → Back m n i r s → r ≡ back_on d e n i
unfolding back_on
back_as d e n i {m} q b w = w.steps ∙ back_same n (λ x y. cell m x y) (λ x y. cell (matrix_on d e n) x y) q i b

pub back_none : (d : List ℕ) (e n i : ℕ) (m : List ℕ) → Alike m d e n → i < n → steps_back (λ a b. cell m a b) n i ≡ n + 1 → n < back_on d e n i
unfolding back_on
back_none d e n i m q b w = let z = back_same n (λ x y. cell m x y) (λ x y. cell (matrix_on d e n) x y) q i b in omega (arith, z, w)

-- the earliest of the fewest is one of the fewest
pub fewest_of : (d : List ℕ) (ev n t i : ℕ) (o : Option Walk) → EarliestIfAny d ev n t i o → FewestIfAny d ev n t i o
fewest_of d ev n t i None f = f
fewest_of d ev n t i (Some w) f = f.fewest

-- the next behaviour
module _ (d : List ℕ) (e ev n t i : ℕ) (q : e ≡ event_of_turn ev t) (b : i < n) where
  -- one passed now was passed before, or is the next
  passed_one : {Q : Type 0} (u j : ℕ) → Passed n t (i + 1) u j → (Passed n t i u j → Q) → (u ≡ t → j ≡ i → Q) → Q
  passed_one u j (h, inl p) old new = old (h, inl p)
  passed_one u j (h, inr p) old new =
      by_cases (dec_lt j i) (λ s. old (h, inr (p.0, s))) (λ s. new p.0 (omega (arith, p.1)))

  more : {u j : ℕ} → Passed n t i u j → Passed n t (i + 1) u j
  more (h, inl p) = (h, inl p)
  more (h, inr p) = (h, inr (p.0, omega (arith, p.1)))

  not_later : {u j : ℕ} → Passed n t i u j → u ≤ t
  not_later (h, inl p) = omega arith
  not_later (h, inr p) = omega (arith, p.0)

  here : (u j : ℕ) → u ≡ t → j ≡ i → back_on d (event_of_turn ev u) n j ≡ back_on d e n i
  here u j x y = rw (x, y, q)

  -- without a walk back
  pub next_none : (o : Option Walk) → FewestIfAny d ev n t i o → n < back_on d e n i → FewestIfAny d ev n t (i + 1) o
  next_none None f h = λ u j p. passed_one u j p (f u j) (λ x y. omega (arith, here u j x y))
  next_none (Some w) f h = record {
    turn = f.turn;
    event = f.event;
    passed = more f.passed;
    steps = f.steps;
    few = f.few;
    least = λ u j p. passed_one u j p (f.least u j) (λ x y. omega (arith, here u j x y, f.few));
    earlier = λ u j p l. passed_one u j p (λ o. f.earlier u j o l) (λ x y. omega (arith, here u j x y, f.few));
  }

  pub next_earliest_none : (o : Option Walk) → EarliestIfAny d ev n t i o → n < back_on d e n i → EarliestIfAny d ev n t (i + 1) o
  next_earliest_none None f h = next_none None f h
  next_earliest_none (Some w) f h = record { fewest = next_none (Some w) f.fewest h; lowest = f.lowest }

  module _ (r : ℕ) (s : r ≡ back_on d e n i) (h : r ≤ n) where
    abbrev walk : Walk
    walk = record { steps = r; event = e; behaviour = i }

    -- it is shorter than all before
    taken_walk : ((u j : ℕ) → Passed n t i u j → r < back_on d (event_of_turn ev u) n j) → Fewest d ev n t (i + 1) walk
    taken_walk f = record {
      turn = t;
      event = q;
      passed = (b, inr (refl, omega arith));
      steps = s;
      few = h;
      least = λ u j p. passed_one u j p (λ o. omega (arith, f u j o)) (λ x y. omega (arith, here u j x y, s));
      earlier = λ u j p l. passed_one u j p (f u j) (λ x y. absurd (omega arith));
    }

    kept_walk : (w : Walk) → Fewest d ev n t i w → w.steps ≤ r → Fewest d ev n t (i + 1) w
    kept_walk w f k = record {
      turn = f.turn;
      event = f.event;
      passed = more f.passed;
      steps = f.steps;
      few = f.few;
      least = λ u j p. passed_one u j p (f.least u j) (λ x y. omega (arith, here u j x y, s, k));
      earlier = λ u j p l. passed_one u j p (λ o. f.earlier u j o l) (λ x y. absurd (omega (arith, not_later f.passed)));
    }

    pub next_walk : (o : Option Walk) → FewestIfAny d ev n t i o → Fewest d ev n t (i + 1) (shorter_of o walk)
    unfolding shorter_of
    next_walk None f = taken_walk (λ u j p. omega (arith, f u j p))
    next_walk (Some w) f =
        by_cases (dec_lt r w.steps)
        (λ l. rw (lt-leb w.steps r l) (taken_walk (λ u j p. omega (arith, f.least u j p))))
        (λ l. let k : w.steps ≤ r = omega arith in rw (le-leb w.steps r k) (kept_walk w f k))

    -- no lower behaviour of its turn has as few
    abbrev Low : Walk → Type 0
    Low w = (j : ℕ) → j < w.behaviour → w.steps < back_on d w.event n j

    taken_low : ((j : ℕ) → j < i → r < back_on d (event_of_turn ev t) n j) → Low walk
    taken_low f j l = rw q (f j l)

    next_low : (o : Option Walk) → EarliestIfAny d ev n t i o → Low (shorter_of o walk)
    unfolding shorter_of
    next_low None f = taken_low (λ j l. omega (arith, f t j (omega arith, inr (refl, l))))
    next_low (Some w) f =
        by_cases (dec_lt r w.steps)
        (λ l. rw (lt-leb w.steps r l) (taken_low (λ j p. omega (arith, f.fewest.least t j (omega arith, inr (refl, p))))))
        (λ l. let k : w.steps ≤ r = omega arith in rw (le-leb w.steps r k) f.lowest)

    pub next_earliest : (o : Option Walk) → EarliestIfAny d ev n t i o → Earliest d ev n t (i + 1) (shorter_of o walk)
    next_earliest o f = record { fewest = next_walk o (fewest_of d ev n t i o f); lowest = next_low o f }

-- the event of a turn is declared, or none
pub turn_event : (ev t : ℕ) {e : ℕ} → t ≤ ev → e ≡ event_of_turn ev t → e ≤ ev
turn_event ev t h q = rw q (turn_declared ev t h)

-- ---- a walk, listed

module _ (d : List ℕ) (e n i : ℕ) (h : back_on d e n i ≤ n) (m : List ℕ) (q : Alike m d e n) (b : i < n) where
  pub walk_there : (s : List ℕ) (o : Option ℕ) → BackIfAny m n i o s → IsSome o
  walk_there s None w = absurd (omega (arith, back_none d e n i m q b w))
  walk_there s (Some r) w = refl

  module _ {s : List ℕ} {r : ℕ} (k : Back m n i r s) where
    pub back_ready : (0 < r) × Layered m n i s (r - 1) × (layer (λ x y. cell m x y) n r i i ≡ true)
    back_ready =
        let z = back_as d e n i q b k in
        let t = layer_same n (λ x y. cell m x y) (λ x y. cell (matrix_on d e n) x y) q r i i b in
        (omega (arith, z, back_least d e n i), k.layers, t ∙ rw z (back_holds d e n i h))

    pub members_are : {list list' : List ℕ} → Walked m n r list list' → CircleMembers d e n i r list list'
    members_are l = record { steps = back_as d e n i q b k; walked = walked_same m (matrix_on d e n) q l }

-- the list with them
taken_of : (r : ℕ) (l o rest : List ℕ) → l ≡ o ++ drop r rest → length o ≡ r → take r l ≡ o
taken_of r l o rest q c = rw (q, ← c) (take-append_seam o (drop (length o) rest))

-- ---- what is found

module _ (d : List ℕ) (ev n : ℕ) (few : n ≤ 64) (long : Wide d ev n) {w : Walk} (f : Best d ev n w)
    {r : ℕ} {scratch listed : List ℕ} (k : CircleMembers d w.event n w.behaviour r scratch listed) where
  abbrev ms : List ℕ
  ms = k.walked.members

  taken : take r listed ≡ ms
  taken = taken_of r listed ms scratch k.walked.bytes k.walked.count

  pub found_is : {list list' : List ℕ} {x : ℕ} → list' ≡ handed listed r list → x ≡ event_number w.event ev → ShortestFound d ev n list (12 + x * 256 + r * 65536) list'
  unfolding handed
  found_is {list} {list'} {x} l p =
      let c : length ms ≡ r = k.walked.count in
      let s : length ms ≡ w.steps = c ∙ k.steps ∙ sym f.steps in
      record {
        event = w.event;
        declared = f.event;
        members = ms;
        below_n = k.walked.below;
        circle = k.walked.circle;
        answer = rw (p, c);
        shortest = λ e h y z. rw s (none_shorter d ev n few long w f e h y z);
        none_first = λ y z h. none_goes_first d ev n few long w f y z (omega (arith, s));
        fits = λ h. let g : ltb (length list) r ≡ false = le-ltb (length list) r (omega arith) in l ∙ rw (g, taken, c);
        short = λ h. let g : ltb (length list) r ≡ true = lt-ltb (length list) r (omega arith) in l ∙ rw g;
      }
