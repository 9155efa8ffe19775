-- What the closed rows decide: one behaviour leads to another through passives (`Via`), and what a behaviour depends on
-- (`Cone`). A chain is one step and a chain; and passing through the numbers one by one, all chains are found.
use Rattle.lib_base.proofs.Prelude.{ℕ, ◌≤◌, ◌<◌, suc, zero, ◌≡◌, refl, ◌∙◌, sym, ap, subst, true, Bool, false≢true}
use Rattle.lib_base.proofs.Prelude.{◌&&◌, and-eq-true_iff, or-true, by_cases, ◌⊎◌, ⊎_elim, inr, inl, [], dec_lt, arith}
use Rattle.lib_base.specs.Basics.{All}
use Rattle.lib_base.proofs.Tools.{or_either, all_at_or}
use Rattle.spec_language.specs.Syntax.{Expr, Behaviour, passive, active, Program}
use Rattle.spec_language.specs.Dependence.{size, events, no_event, respond, behaviour_at, mentions, needs, depends_on, Reach, one, more}
use Rattle.spec_language.specs.Fits.{BehaviourFits}
use Rattle.spec_language.specs.Accepted.{Known}
use Rattle.check_graph.proofs.Closure.{reach_then}
use Rattle.check_reads.specs.Sets.{closed_by}
use Rattle.check_reads.specs.Named.{through_passives}
use Rattle.check_reads.proofs.Decides.{none_handled, chain_says, chain_is}
use Rattle.ask_commute.specs.Meets.{Via, itself, passing}

-- ---- all chains, through the numbers one by one

module _ (dep : ℕ → ℕ → Bool) where
  closed_reach : (k i j : ℕ) → closed_by k dep i j ≡ true → Reach dep i j
  unfolding closed_by
  closed_reach zero i j h = one h
  closed_reach (suc k) i j h =
      ⊎_elim (λ t. closed_reach k i j t)
      (λ t. let g = (and-eq-true_iff (closed_by k dep i k) (closed_by k dep k j)).0 t in reach_then (closed_reach k i k g.0) (closed_reach k k j g.1))
      (or_either (closed_by k dep i j) (closed_by k dep i k && closed_by k dep k j) h)

  closed_stays : (k i j : ℕ) → closed_by k dep i j ≡ true → closed_by (suc k) dep i j ≡ true
  unfolding closed_by
  closed_stays k i j h = rw h

  closed_last : (k i j : ℕ) → closed_by k dep i k ≡ true → closed_by k dep k j ≡ true → closed_by (suc k) dep i j ≡ true
  unfolding closed_by
  closed_last k i j h g = rw (h, g) (or-true (closed_by k dep i j))

  closed_has : (k i j : ℕ) → dep i j ≡ true → closed_by k dep i j ≡ true
  unfolding closed_by
  closed_has zero i j h = h
  closed_has (suc k) i j h = closed_stays k i j (closed_has k i j h)

  -- what is new with k goes through k
  abbrev Through : ℕ → ℕ → ℕ → Type 0
  Through k i j = (closed_by k dep i j ≡ true) ⊎ ((closed_by k dep i k ≡ true) × (closed_by k dep k j ≡ true))

  parted : (k i j : ℕ) → closed_by (suc k) dep i j ≡ true → Through k i j
  unfolding closed_by
  parted k i j h =
      ⊎_elim (λ t. inl t) (λ t. inr ((and-eq-true_iff (closed_by k dep i k) (closed_by k dep k j)).0 t))
      (or_either (closed_by k dep i j) (closed_by k dep i k && closed_by k dep k j) h)

  to_last : (k i : ℕ) → Through k i k → closed_by k dep i k ≡ true
  to_last k i (inl t) = t
  to_last k i (inr t) = t.0

  from_last : (k j : ℕ) → Through k k j → closed_by k dep k j ≡ true
  from_last k j (inl t) = t
  from_last k j (inr t) = t.1

  -- chains through m < k join
  mutual_join : (k i m j : ℕ) → ((a b : ℕ) → closed_by k dep a m ≡ true → closed_by k dep m b ≡ true → closed_by k dep a b ≡ true)
      → Through k i m → Through k m j → closed_by (suc k) dep i j ≡ true
  mutual_join k i m j join (inl s) (inl t) = closed_stays k i j (join i j s t)
  mutual_join k i m j join (inl s) (inr t) = closed_last k i j (join i k s t.0) t.1
  mutual_join k i m j join (inr s) (inl t) = closed_last k i j s.0 (join k j s.1 t)
  mutual_join k i m j join (inr s) (inr t) = closed_last k i j s.0 t.1

  closed_join : (k m : ℕ) → m < k → (i j : ℕ) → closed_by k dep i m ≡ true → closed_by k dep m j ≡ true → closed_by k dep i j ≡ true
  closed_join zero m h i j s t = absurd (omega arith)
  closed_join (suc k) m h i j s t =
      by_cases (dec_lt m k)
      (λ l. mutual_join k i m j (closed_join k m l) (parted k i m s) (parted k m j t))
      (λ l. let q : m ≡ k = omega arith in
      closed_last k i j (to_last k i (parted k i k (subst (λ (x : ℕ). closed_by (suc k) dep i x ≡ true) q s)))
      (from_last k j (parted k k j (subst (λ (x : ℕ). closed_by (suc k) dep x j ≡ true) q t))))

  reach_closed : (n : ℕ) → ((i j : ℕ) → dep i j ≡ true → i < n) → {i j : ℕ} → Reach dep i j → closed_by n dep i j ≡ true
  reach_closed n within {i} {j} (one d) = closed_has n i j d
  reach_closed n within {i} {j} (more {b = k} r d) = closed_join n k (within k j d) i j (reach_closed n within r) (closed_has n k j d)

  pub closed_says : (n i j : ℕ) → closed_by n dep i j ≡ true → Reach dep i j
  closed_says n i j h = closed_reach n i j h

  pub closed_is : (n : ℕ) → ((i j : ℕ) → dep i j ≡ true → i < n) → (i j : ℕ) → Reach dep i j → closed_by n dep i j ≡ true
  closed_is n within i j r = reach_closed n within r

-- ---- through passives

module _ (p : Program) (each : All (BehaviourFits (events p)) p.behaviours) (known : Known p) (few : size p ≤ 64) where
  needs_passive : (i j : ℕ) (b : Behaviour) → BehaviourFits (events p) b → needs i j (respond (no_event p) b) ≡ true → (x : Expr) × (b ≡ passive x) × (mentions j x ≡ true)
  needs_passive i j (passive x) f h = (x, refl, h)
  needs_passive i j (active s hs) f h = absurd (false≢true (ap (needs i j) (sym (none_handled (events p) hs f.1)) ∙ h))

  step : (i j : ℕ) → depends_on p (no_event p) i j ≡ true → (x : Expr) × (behaviour_at p i ≡ passive x) × (mentions j x ≡ true)
  step i j h = needs_passive i j (behaviour_at p i) (all_at_or (BehaviourFits (events p)) p.behaviours i (active 0 []) each (omega arith, tt)) h

  via_then : {k i j : ℕ} {x : Expr} → Via p k i → behaviour_at p i ≡ passive x → mentions j x ≡ true → Via p k j
  via_then itself q m = passing q m itself
  via_then (passing r n u) q m = passing r n (via_then u q m)

  reach_via : {k j : ℕ} → Reach (depends_on p (no_event p)) k j → Via p k j
  reach_via {k} {j} (one d) = let w = step k j d in passing w.1 w.2 itself
  reach_via {k} {j} (more {b = i} r d) = let w = step i j d in via_then (reach_via r) w.1 w.2

  passive_needs : (i j : ℕ) (x : Expr) → behaviour_at p i ≡ passive x → mentions j x ≡ true → depends_on p (no_event p) i j ≡ true
  passive_needs i j x q h = ap (λ (b : Behaviour). needs i j (respond (no_event p) b)) q ∙ h

  via_reach : {k j : ℕ} → Via p k j → (k ≡ j) ⊎ Reach (depends_on p (no_event p)) k j
  via_reach itself = inl refl
  via_reach {k} {j} (passing {i = i} {x = x} q m u) =
      let d = passive_needs k i x q m in
      ⊎_elim (λ e. inr (subst (Reach (depends_on p (no_event p)) k) e (one d))) (λ r. inr (reach_then (one d) r)) (via_reach u)

  pub via_says : (k j : ℕ) → k < size p → j < size p → through_passives p k j ≡ true → Via p k j
  via_says k j a b h = reach_via (chain_says p each known few k j a b h)

  pub via_is : (k j : ℕ) → k < size p → j < size p → Via p k j → (k ≡ j) ⊎ (through_passives p k j ≡ true)
  via_is k j a b u = ⊎_elim (λ e. inl e) (λ r. inr (chain_is p each known few k j a b r)) (via_reach u)
