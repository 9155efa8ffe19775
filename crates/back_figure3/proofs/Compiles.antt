-- The check on dependence passes exactly if the event has no cycle, and then the event's code is a handler by the rules
-- of Figure 3; a phase one by those rules is there for no other event. Everyone stands in the order if nobody is left
-- unmarked, by counting; a cycle cannot be derived, since whoever is placed names only those placed before.
use Rattle.lib_base.proofs.Prelude.{ℕ, ◌≤◌, ◌<◌, ◌+◌, suc, zero, ◌≡◌, refl, ◌∙◌, sym, ap, subst, true, false, Bool}
use Rattle.lib_base.proofs.Prelude.{false≢true, true≢false, not, ◌≢◌, ◌⊎◌, ⊎_elim, inr, inl, List, [], ◌∷◌, sum, length}
use Rattle.lib_base.proofs.Prelude.{length-set, set, length-append, eqb, eqb-true, ltb-false, eqb-false, arith}
use Rattle.lib_base.specs.Basics.{All}
use Rattle.lib_base.proofs.Tools.{split}
use Rattle.spec_language.specs.Syntax.{Program}
use Rattle.spec_language.specs.Dependence.{Response, defers, keeps, size, events, response, needs, depends_on, Reach, one, more, Acyclic}
use Rattle.spec_language.specs.Order.{up_to, early, met_at_once, phase_one}
use Rattle.spec_language.specs.Accepted.{Known}
use Rattle.spec_language.specs.Valid.{Accepted}
use Rattle.spec_language.specs.Code.{one?, copy, members, copy_part, code}
use Rattle.spec_language.proofs.Laws.{none_past, depends_within}
use Rattle.spec_semantics.proofs.Graph.{Marked, free, free_set, free_le}
use Rattle.spec_execution.proofs.Lengths.{length_C}
use Rattle.spec_semantics.proofs.OrderLaws.{mark_all, Ordered, length_met, late_needs, phase_one_ordered, order_complete}
use Rattle.back_figure3.specs.Figure3.{Assign, assigned, every_behaviour, without, FirstPhaseRule, none₁, passive₁, immediate₁, later₁, unhandled₁, HandlerCode}
use Rattle.back_figure3.specs.Turns.{turns_in}
use Rattle.back_figure3.proofs.Parts.{first_of, second_of, first_code_law, second_code}
use Rattle.back_figure3.proofs.Derived.{without_is, first_derived, second_derived}

-- ---- how many have a turn in phase one

free_turns : (n : ℕ) (f : ℕ → Bool) → free (up_to n (λ i. not (f i))) ≡ sum ◌+◌ 0 (up_to n (λ i. one? (f i)))
unfolding up_to sum
free_turns zero f = refl
free_turns (suc n) f =
    let ih : free (up_to n (λ i. not (f (suc i)))) ≡ sum ◌+◌ 0 (up_to n (λ i. one? (f (suc i)))) = free_turns n (λ i. f (suc i)) in
    split (f 0) (λ t. rw t (omega arith)) (λ t. rw t (omega arith))

free_none : (m : List Bool) → ((i : ℕ) → i < length m → Marked m i) → free m ≡ 0
free_none [] h = refl
free_none (true ∷ m) h = free_none m (λ i b. h (suc i) (omega arith))
free_none (false ∷ m) h = absurd (false≢true (h 0 (omega arith)))

none_free : (m : List Bool) → free m ≡ 0 → (i : ℕ) → i < length m → Marked m i
none_free [] h i b = absurd (omega arith)
none_free (true ∷ m) h zero b = refl
none_free (true ∷ m) h (suc i) b = none_free m h i (omega arith)
none_free (false ∷ m) h i b = absurd (omega arith)

length_marks : (is : List ℕ) (m : List Bool) → length (mark_all is m) ≡ length m
length_marks [] m = refl
length_marks (i ∷ is) m = length_marks is (set m i true) ∙ length-set m i true

-- each of an order takes one mark
placed : (n : ℕ) (dep : ℕ → ℕ → Bool) (is : List ℕ) (m : List Bool) → length m ≡ n → Ordered n dep m is → length is + free (mark_all is m) ≡ free m
placed n dep [] m l o = omega arith
placed n dep (i ∷ is) m l o =
    let ih : length is + free (mark_all is (set m i true)) ≡ free (set m i true) = placed n dep is (set m i true) (simp length-set l) o.3 in
    omega (arith, free_set m i (omega arith) o.1)

-- ---- a phase one is there only without a cycle

-- the first step of a chain
pub first_step : {dep : ℕ → ℕ → Bool} {a c : ℕ} → Reach dep a c → (j : ℕ) × (dep a j ≡ true) × ((j ≡ c) ⊎ Reach dep j c)
first_step {c = c} (one d) = (c, d, inl refl)
first_step {dep} {a} {c} (more {b = b} r d) =
    let w = first_step r in
    (w.0, w.1, ⊎_elim (λ q. inr (one (subst (λ (x : ℕ). dep x c ≡ true) (sym q) d))) (λ s. inr (more s d)) w.2)

-- who needs only those that do not reach themselves does not either
pub not_round : {dep : ℕ → ℕ → Bool} {i : ℕ} → ((j : ℕ) → dep i j ≡ true → Reach dep j j → ⊥) → Reach dep i i → ⊥
not_round {dep} {i} h r =
    let w = first_step r in
    h w.0 w.1 (⊎_elim (λ q. subst (λ (x : ℕ). Reach dep x x) (sym q) r) (λ s. more s w.1) w.2)

module _ (p : Program) (e : ℕ) where
  abbrev dep : ℕ → ℕ → Bool
  dep = depends_on p e

  abbrev Fine : ℕ → Type 0
  Fine i = Reach dep i i → ⊥

  late_fine : (i : ℕ) → early (response p e i) ≡ false → Fine i
  late_fine i h = not_round (λ j d s. late_needs i j (response p e i) h d)

  by_response : (i : ℕ) (r : Response) → response p e i ≡ r → early r ≡ false → Fine i
  by_response i r q h = late_fine i (ap early q ∙ h)

  -- whoever has a turn is assigned
  has_turn : {P : ℕ → Bool} {A : List Assign} → FirstPhaseRule p e P A → (b : ℕ) → P b ≡ true → early (response p e b) ≡ true → All (λ a. assigned b a ≡ false) A → ⊥
  has_turn (none₁ h) b t f a = true≢false (sym t ∙ h b)
  has_turn (passive₁ {P = P} i s q d g) b t f a = has_turn d b (without_is i P b (eqb-false i b a.0) t) f a.1
  has_turn (immediate₁ {P = P} i s q d g) b t f a = has_turn d b (without_is i P b (eqb-false i b a.0) t) f a.1
  has_turn (later₁ {P = P} i s q d g) b t f a =
      has_turn d b (without_is i P b (λ z. true≢false (sym f ∙ ap (λ x. early (response p e x)) (sym z) ∙ ap early q)) t) f a.1
  has_turn (unhandled₁ {P = P} i s q d) b t f a =
      has_turn d b (without_is i P b (λ z. true≢false (sym f ∙ ap (λ x. early (response p e x)) (sym z) ∙ ap early q)) t) f a

  -- whoever is placed needs nobody that is left
  fine_next : (P : ℕ → Bool) (i : ℕ) (A : List Assign) → ((a : ℕ) → P a ≡ false → Fine a) → FirstPhaseRule p e (without i P) A
      → ((j : ℕ) → dep i j ≡ true → (i ≢ j) × All (λ b. assigned j b ≡ false) A) → Fine i
  fine_next P i A out d g =
      not_round (λ j h.
      split (P j)
      (λ t. split (early (response p e j)) (λ f. let w = g j h in absurd (has_turn d j (without_is i P j w.0 t) f w.1)) (λ f. late_fine j f))
      (λ t. out j t))

  fine_less : (P : ℕ → Bool) (i : ℕ) → ((a : ℕ) → P a ≡ false → Fine a) → Fine i → (a : ℕ) → without i P a ≡ false → Fine a
  fine_less P i out h a t =
      split (eqb i a) (λ q. subst Fine (eqb-true i a q) h)
      (λ q. split (P a) (λ s. absurd (true≢false (sym (without_is i P a (eqb-false i a q) s) ∙ t))) (λ s. out a s))

  derived_fine : {P : ℕ → Bool} {A : List Assign} → FirstPhaseRule p e P A → ((a : ℕ) → P a ≡ false → Fine a) → (a : ℕ) → Fine a
  derived_fine (none₁ h) out = λ a. out a (h a)
  derived_fine (passive₁ {P = P} i {A = A} s q d g) out =
      derived_fine d (fine_less P i out (fine_next P i A out d (λ j h. let w = g j (ap (needs i j) (sym q) ∙ h) in (eqb-false i j w.0, w.1))))
  derived_fine (immediate₁ {P = P} i {A = A} s q d g) out =
      derived_fine d (fine_less P i out (fine_next P i A out d (λ j h. let w = g j (ap (needs i j) (sym q) ∙ h) in (eqb-false i j w.0, w.1))))
  derived_fine (later₁ {P = P} i s q d g) out = derived_fine d (fine_less P i out (by_response i (defers _) q refl))
  derived_fine (unhandled₁ {P = P} i s q d) out = derived_fine d (fine_less P i out (by_response i keeps q refl))

-- Figure 3 gives no first phase to an event that has a cycle
pub derived_acyclic : (p : Program) (e : ℕ) {A : List Assign} → FirstPhaseRule p e (every_behaviour p) A → Acyclic p e
derived_acyclic p e d =
    derived_fine p e d
    (λ a t r. let w = first_step r in true≢false (sym w.1 ∙ none_past p e a w.0 (ltb-false a (size p) t)))

-- ---- the check, and the handler

module _ (p : Program) (e : ℕ) (known : Known p) where
  counted : length (phase_one p e) + free (mark_all (phase_one p e) (met_at_once p e)) ≡ turns_in p e
  unfolding turns_in met_at_once
  counted =
      placed (size p) (depends_on p e) (phase_one p e) (met_at_once p e) (length_met p e) (phase_one_ordered p e known)
      ∙ free_turns (size p) (λ i. early (response p e i))

  length_all : length (mark_all (phase_one p e) (met_at_once p e)) ≡ size p
  length_all = length_marks (phase_one p e) (met_at_once p e) ∙ length_met p e

  all_placed : turns_in p e ≤ length (phase_one p e) → (i : ℕ) → i < size p → Marked (mark_all (phase_one p e) (met_at_once p e)) i
  all_placed h i b = none_free (mark_all (phase_one p e) (met_at_once p e)) (omega (arith, counted)) i (omega (arith, length_all))

  acyclic_placed : Acyclic p e → (i : ℕ) → i < size p → Marked (mark_all (phase_one p e) (met_at_once p e)) i
  unfolding phase_one
  acyclic_placed h =
      order_complete (size p) (depends_on p e) (depends_within p known e) h (size p) (met_at_once p e) (length_met p e)
      (omega (arith, free_le (met_at_once p e), length_met p e))

  -- everyone that has a turn stands in phase one's order exactly if the event has no cycle
  pub check_exactly : ((turns_in p e ≤ length (phase_one p e) → Acyclic p e) × (Acyclic p e → turns_in p e ≤ length (phase_one p e)))
  check_exactly = (
    λ h. derived_acyclic p e (first_derived p e known (all_placed h)),
    λ h. omega (arith, counted, free_none (mark_all (phase_one p e) (met_at_once p e)) (λ i b. acyclic_placed h i (omega (arith, length_all)))),
  )

  length_copies : length (copy_part p e) ≡ 2 + members p e
  unfolding copy_part
  length_copies = simp length-append (omega (arith, length_C p e copy))

  -- and then its code is a handler by Figure 3
  pub compiles : Acyclic p e → HandlerCode p e
  unfolding code
  compiles h = record {
    first = first_of p e;
    second = second_of p e;
    phase_one_law = first_derived p e known (acyclic_placed h);
    phase_two = second_derived p e known (acyclic_placed h);
    first_gives = first_code_law p e;
    second_gives = second_code p e;
    in_a_row = refl;
    begins = length_copies;
  }

-- so of every event of an accepted program
pub accepted_compiles : (p : Program) → Accepted p → (e : ℕ) → e < events p → HandlerCode p e
accepted_compiles p ok e h = compiles p e ok.known (ok.acyclic e (omega arith))
