-- The tests decide 01's definition: what the handlers of an event name, directly or through passives, is `Named`. Under
-- no event the closed matrix decides what is reached by a chain, and a chain leads through passives.
use Rattle.lib_base.proofs.Prelude.{ℕ, ◌≤◌, ◌<◌, ◌≡◌, refl, ◌∙◌, sym, ap, true, Bool, ◌||◌, false≢true, ◌&&◌}
use Rattle.lib_base.proofs.Prelude.{and-eq-true_iff, or-true, by_cases, ⊎_elim, List, [], ◌∷◌}
use Rattle.lib_base.proofs.Prelude.{List·getD-eq-default, dec_lt, ne_eqb, arith}
use Rattle.lib_base.specs.Basics.{All}
use Rattle.lib_base.proofs.Tools.{or_either, all_at_or}
use Rattle.spec_language.specs.Syntax.{Expr, Handler, handler, Behaviour, passive, active, Program}
use Rattle.spec_language.specs.Dependence.{Response, follows, takes, defers, keeps, size, events, no_event, handled, respond, response, behaviour_at, mentions, needs, depends_on, Reach, one, more, written, writes, Named, in_immediate, in_later, through}
use Rattle.spec_language.specs.Fits.{HandlersFit, BehaviourFits}
use Rattle.spec_language.specs.Accepted.{Known}
use Rattle.spec_language.proofs.Laws.{depends_within, handled_there}
use Rattle.check_graph.specs.Matrix.{cell_below}
use Rattle.check_graph.proofs.Closure.{below_says, below_is, reach_map, closed_decides}
use Rattle.check_graph.specs.Any.{any_below}
use Rattle.check_faults.specs.Faults.{matrix_of}
use Rattle.check_graph.proofs.Any.{any_some, any_member}
use Rattle.check_faults.proofs.MatrixAgrees.{length_matrix_of}
use Rattle.check_faults.proofs.CycleDecides.{cell_is}
use Rattle.check_reads.specs.Named.{named_directly, through_passives, named_by}
use Rattle.check_reads.specs.InResponse.{in_response}

-- ---- no event: a passive needs its names, an active nothing

pub none_handled : (n : ℕ) (hs : List Handler) → HandlersFit n hs → handled n hs ≡ keeps
unfolding handled
none_handled n [] h = refl
none_handled n (handler f φ x ∷ hs) h = handled_there n f φ x hs (ne_eqb n f (λ q. omega (arith, h.0))) ∙ none_handled n hs h.3

-- past the end there is an active with no handler
past_end : (p : Program) (e i : ℕ) → size p ≤ i → response p e i ≡ keeps
unfolding handled
past_end p e i h = ap (λ (y : Behaviour). respond e y) (List·getD-eq-default p.behaviours (active 0 []) h)

within : (p : Program) (e i : ℕ) (r : Response) → response p e i ≡ r → written r ≡ true → i < size p
within p e i r q w =
    by_cases (dec_lt i (size p)) (λ s. s)
    (λ s. absurd (false≢true (ap written (sym (past_end p e i (omega arith)) ∙ q) ∙ w)))

module _ (p : Program) (each : All (BehaviourFits (events p)) p.behaviours) where
  fits_at : (i : ℕ) → BehaviourFits (events p) (behaviour_at p i)
  fits_at i = all_at_or (BehaviourFits (events p)) p.behaviours i (active 0 []) each (omega arith, tt)

  needs_passive : (i j : ℕ) (b : Behaviour) → BehaviourFits (events p) b → needs i j (respond (no_event p) b) ≡ true → (x : Expr) × (b ≡ passive x) × (mentions j x ≡ true)
  needs_passive i j (passive x) f h = (x, refl, h)
  needs_passive i j (active s hs) f h = absurd (false≢true (ap (needs i j) (sym (none_handled (events p) hs f.1)) ∙ h))

  depends_passive : (i j : ℕ) → depends_on p (no_event p) i j ≡ true → (x : Expr) × (behaviour_at p i ≡ passive x) × (mentions j x ≡ true)
  depends_passive i j h = needs_passive i j (behaviour_at p i) (fits_at i) h

  passive_depends : (i j : ℕ) (x : Expr) → behaviour_at p i ≡ passive x → mentions j x ≡ true → depends_on p (no_event p) i j ≡ true
  passive_depends i j x q h = ap (λ (b : Behaviour). needs i j (respond (no_event p) b)) q ∙ h

  -- what is named and reached from there is named
  reach_named : (e : ℕ) {i j : ℕ} → Reach (depends_on p (no_event p)) i j → Named p e i → Named p e j
  reach_named e {i} {j} (one d) m = let w = depends_passive i j d in through m w.1 w.2
  reach_named e {i} {j} (more {b = k} r d) m = let w = depends_passive k j d in through (reach_named e r m) w.1 w.2

  module _ (known : Known p) (few : size p ≤ 64) where
    to_below : (i j : ℕ) → depends_on p (no_event p) i j ≡ true → cell_below (size p) (matrix_of p (no_event p)) i j ≡ true
    to_below i j h =
        let w = depends_within p known (no_event p) i j h in
        below_is (size p) (matrix_of p (no_event p)) i j w.0 w.1 (cell_is p (no_event p) i j (omega (arith, w.0)) (omega (arith, w.1)) ∙ h)

    from_below : (i j : ℕ) → cell_below (size p) (matrix_of p (no_event p)) i j ≡ true → depends_on p (no_event p) i j ≡ true
    from_below i j h =
        let w = below_says (size p) (matrix_of p (no_event p)) i j h in
        sym (cell_is p (no_event p) i j (omega (arith, w.0)) (omega (arith, w.1))) ∙ w.2

    pub chain_says : (i j : ℕ) → i < size p → j < size p → through_passives p i j ≡ true → Reach (depends_on p (no_event p)) i j
    unfolding through_passives
    chain_says i j a b h =
        reach_map from_below ((closed_decides (matrix_of p (no_event p)) (size p) (length_matrix_of p (no_event p)) few i j a b).0 h)

    pub chain_is : (i j : ℕ) → i < size p → j < size p → Reach (depends_on p (no_event p)) i j → through_passives p i j ≡ true
    unfolding through_passives
    chain_is i j a b r =
        (closed_decides (matrix_of p (no_event p)) (size p) (length_matrix_of p (no_event p)) few i j a b).1 (reach_map to_below r)

    module _ (e : ℕ) where
      -- ---- named in a handler

      in_handler : (i j : ℕ) (r : Response) → response p e i ≡ r → written r ≡ true → in_response j r ≡ true → Named p e j
      in_handler i j (follows x) q w h = absurd (false≢true w)
      in_handler i j (takes x) q w h = in_immediate i q h
      in_handler i j (defers x) q w h = in_later i q h
      in_handler i j keeps q w h = absurd (false≢true w)

      directly : (j : ℕ) → named_directly p e j ≡ true → Named p e j
      unfolding named_directly
      directly j h =
          let f = any_member (size p) (λ i. writes p e i && in_response j (response p e i)) h in
          let g = (and-eq-true_iff (writes p e f.0) (in_response j (response p e f.0))).0 f.2 in
          in_handler f.0 j (response p e f.0) refl g.0 g.1

      by_handler : (i j : ℕ) (r : Response) → response p e i ≡ r → written r ≡ true → in_response j r ≡ true → named_directly p e j ≡ true
      unfolding named_directly
      by_handler i j r q w h =
          any_some (size p) (λ k. writes p e k && in_response j (response p e k)) i (within p e i r q w)
          (rw q ((and-eq-true_iff (written r) (in_response j r)).1 (w, h)))

      -- ---- both ways

      pub named_says : (j : ℕ) → j < size p → named_by p e j ≡ true → Named p e j
      unfolding named_by
      named_says j b h =
          ⊎_elim (directly j)
          (λ t. let f = any_member (size p) (λ i. named_directly p e i && through_passives p i j) t in
          let g = (and-eq-true_iff (named_directly p e f.0) (through_passives p f.0 j)).0 f.2 in
          reach_named e (chain_says f.0 j f.1 b g.1) (directly f.0 g.0))
          (or_either (named_directly p e j) (any_below (size p) (λ i. named_directly p e i && through_passives p i j)) h)

      at_once : (j : ℕ) → named_directly p e j ≡ true → named_by p e j ≡ true
      unfolding named_by
      at_once j h = rw h

      by_chain : (i j : ℕ) → i < size p → j < size p → named_directly p e i ≡ true → Reach (depends_on p (no_event p)) i j → named_by p e j ≡ true
      unfolding named_by
      by_chain i j a b h r =
          ap (λ (x : Bool). named_directly p e j || x)
          (any_some (size p) (λ k. named_directly p e k && through_passives p k j) i a ((and-eq-true_iff (named_directly p e i) (through_passives p i j)).1 (h, chain_is i j a b r)))
          ∙ or-true (named_directly p e j)

      onward : (i j : ℕ) → i < size p → named_by p e i ≡ true → depends_on p (no_event p) i j ≡ true → named_by p e j ≡ true
      unfolding named_by
      onward i j a h d =
          let w = depends_within p known (no_event p) i j d in
          ⊎_elim (λ t. by_chain i j a w.1 t (one d))
          (λ t. let f = any_member (size p) (λ k. named_directly p e k && through_passives p k i) t in
          let g = (and-eq-true_iff (named_directly p e f.0) (through_passives p f.0 i)).0 f.2 in
          by_chain f.0 j f.1 w.1 g.0 (more (chain_says f.0 i f.1 a g.1) d))
          (or_either (named_directly p e i) (any_below (size p) (λ k. named_directly p e k && through_passives p k i)) h)

      pub named_is : {j : ℕ} → Named p e j → named_by p e j ≡ true
      named_is {j} (in_immediate i {x = x} q h) = at_once j (by_handler i j (takes x) q refl h)
      named_is {j} (in_later i {x = x} q h) = at_once j (by_handler i j (defers x) q refl h)
      named_is {j} (through {i} {x = x} m q h) =
          let d = passive_depends i j x q h in
          onward i j (depends_within p known (no_event p) i j d).0 (named_is m) d
