-- The carried store is consistent, and it is the one that the rules give: under no event the actives keep what they
-- begin with, and the passives follow from the actives. From one program to itself a consistent store stays.
use Rattle.lib_base.proofs.Prelude.{ℕ, ◌<◌, ◌≡◌, refl, ◌∙◌, sym, ap, subst, true, false, false≢true, and-eq-true_iff}
use Rattle.lib_base.proofs.Prelude.{List, [], length, ext_get_or, ltb, lt-ltb, ltb-true, arith}
use Rattle.lib_base.proofs.Tools.{all_at, split}
use Rattle.spec_language.specs.Syntax.{Handler, Behaviour, passive, active, Program}
use Rattle.spec_language.specs.Dependence.{respond, size, no_event, behaviour_at, is_active}
use Rattle.spec_language.specs.Order.{up_to, phase_one}
use Rattle.spec_language.specs.Fits.{BehaviourFits}
use Rattle.spec_language.specs.Valid.{Valid}
use Rattle.spec_language.proofs.Laws.{length_up_to, get_d_up_to, up_to_same}
use Rattle.spec_semantics.specs.Meaning.{at, first_step, first_phase, start_of, starts, fresh, carry, with_store}
use Rattle.spec_semantics.specs.Event.{Consistent}
use Rattle.spec_semantics.specs.Rules.{Shows}
use Rattle.spec_semantics.proofs.Solution.{first_of, Solves, first_solves, passives_unique}
use Rattle.spec_semantics.proofs.Handlers.{undeclared_keeps}
use Rattle.spec_semantics.proofs.Lengths.{length_first, length_turns, length_starts}
use Rattle.spec_semantics.proofs.Agreement.{consistent_show, consistent_alone}
use Rattle.spec_model.specs.Carried.{is_active_in, carried_start, carried_actives, carried, Carries}

-- ---- numbers that are an active's

pub active_below : (p : Program) (i : ℕ) → is_active_in p i ≡ true → (i < size p) × (is_active (behaviour_at p i) ≡ true)
active_below p i h = let k = (and-eq-true_iff (ltb i (size p)) (is_active (behaviour_at p i))).0 h in (ltb-true i (size p) k.0, k.1)

pub below_active : (p : Program) (i : ℕ) → i < size p → is_active (behaviour_at p i) ≡ true → is_active_in p i ≡ true
below_active p i b h = rw (lt-ltb i (size p) b) h

begins_kept : (v : ℕ) (b : Behaviour) → is_active b ≡ true → carried_start true v b ≡ v
begins_kept v (passive x) h = absurd (false≢true h)
begins_kept v (active c hs) h = refl

-- ---- the store begins with its actives, and keeps them

module _ (p q : Program) (s : List ℕ) where
  pub length_actives : length (carried_actives p q s) ≡ size q
  unfolding carried_actives
  length_actives = length_up_to (size q) _

  pub actives_at : (i : ℕ) → i < size q → at (carried_actives p q s) i ≡ carried_start (is_active_in p i) (at s i) (behaviour_at q i)
  unfolding carried_actives
  actives_at i b = get_d_up_to (size q) _ i 0 b

  pub length_carried : length (carried p q s) ≡ size q
  unfolding carried first_phase
  length_carried = length_turns q (no_event q) first_step length_first (phase_one q (no_event q)) (carried_actives p q s) ∙ length_actives

module _ (q : Program) (v : Valid q) where
  -- under no event an active keeps its value
  still_first : (s : List ℕ) (look : ℕ → ℕ) (i : ℕ) → i < size q → (b : Behaviour) → behaviour_at q i ≡ b → is_active b ≡ true
      → first_of s look i (respond (no_event q) b) ≡ at s i
  still_first s look i h (passive x) e a = absurd (false≢true a)
  still_first s look i h (active c hs) e a =
      let fits : BehaviourFits (no_event q) (active c hs) =
      subst (BehaviourFits (no_event q)) e (all_at (BehaviourFits (no_event q)) q.behaviours i (active 0 []) v.each h) in
      ap (first_of s look i) (undeclared_keeps (no_event q) (no_event q) hs (omega arith) fits.1)

  -- so in a fresh round it has its start
  pub fresh_active : (i c : ℕ) (hs : List Handler) → i < size q → behaviour_at q i ≡ active c hs → at (fresh q) i ≡ c
  unfolding fresh starts
  fresh_active i c hs h e =
      first_solves q v (no_event q) (omega arith) (starts q) (length_starts q) i h
      ∙ still_first (starts q) (at (fresh q)) i h (behaviour_at q i) refl (ap is_active e)
      ∙ get_d_up_to (size q) _ i 0 h ∙ ap start_of e

module _ (p q : Program) (v : Valid q) (s : List ℕ) where
  carried_solves : Solves q (no_event q) (carried_actives p q s) (at (carried p q s))
  unfolding carried
  carried_solves = first_solves q v (no_event q) (omega arith) (carried_actives p q s) (length_actives p q s)

  pub carried_consistent : Consistent q (carried p q s)
  carried_consistent = (
    length_carried p q s,
    λ i x b t. carried_solves i b ∙ ap (λ y. first_of (carried_actives p q s) (at (carried p q s)) i (respond (no_event q) y)) t,
  )

  -- an active of the new program has what it begins with
  pub carried_active : (i : ℕ) → i < size q → is_active (behaviour_at q i) ≡ true → at (carried p q s) i ≡ carried_start (is_active_in p i) (at s i) (behaviour_at q i)
  carried_active i b a =
      carried_solves i b ∙ still_first q v (carried_actives p q s) (at (carried p q s)) i b (behaviour_at q i) refl a ∙ actives_at p q s i b

  carried_kept : (i : ℕ) → is_active_in p i ≡ true → is_active_in q i ≡ true → at (carried p q s) i ≡ at s i
  carried_kept i a b =
      let k = active_below q i b in
      carried_active i k.0 k.1 ∙ rw a (begins_kept (at s i) (behaviour_at q i) k.1)

  carried_begun : (i c : ℕ) (hs : List Handler) → i < size q → is_active_in p i ≡ false → behaviour_at q i ≡ active c hs → at (carried p q s) i ≡ c
  carried_begun i c hs b a e = carried_active i b (ap is_active e) ∙ rw (a, e)

  pub carries : Carries p q s (carried p q s)
  carries = record {
    sized = length_carried p q s;
    kept = carried_kept;
    begun = carried_begun;
    shown = consistent_show q v (carried p q s) carried_consistent;
  }

  -- ---- and no other

  carry_same : (c d : ℕ) (b : Behaviour) → (is_active b ≡ true → c ≡ d) → carry c b ≡ carry d b
  carry_same c d (passive x) h = refl
  carry_same c d (active u hs) h = ap (λ y. active y hs) (h refl)

  with_same : (t u : List ℕ) → ((i : ℕ) → i < size q → is_active (behaviour_at q i) ≡ true → at t i ≡ at u i) → with_store q t ≡ with_store q u
  unfolding with_store
  with_same t u h =
      let same : up_to (size q) (λ i. carry (at t i) (behaviour_at q i)) ≡ up_to (size q) (λ i. carry (at u i) (behaviour_at q i)) =
      up_to_same (size q) _ _ (λ i b. carry_same (at t i) (at u i) (behaviour_at q i) (h i b)) in
      λ k. record { priorities = q.priorities; senders = q.senders; behaviours = same k; viewers = q.viewers }

  begun_same : (t : List ℕ) → Carries p q s t → (i : ℕ) → i < size q → (b : Behaviour) → behaviour_at q i ≡ b → is_active b ≡ true → at t i ≡ at (carried p q s) i
  begun_same t h i l (passive x) e a = absurd (false≢true a)
  begun_same t h i l (active c hs) e a =
      let b : is_active_in q i ≡ true = below_active q i l (ap is_active e) in
      split (is_active_in p i) (λ k. h.kept i k b ∙ sym (carried_kept i k b)) (λ k. h.begun i c hs l k e ∙ sym (carried_begun i c hs l k e))

  pub carries_alone : (t : List ℕ) → Carries p q s t → t ≡ carried p q s
  carries_alone t h =
      let same : with_store q t ≡ with_store q (carried p q s) = with_same t (carried p q s) (λ i l. begun_same t h i l (behaviour_at q i) refl) in
      ext_get_or 0 t (carried p q s) (h.sized ∙ sym (length_carried p q s)) (λ i b.
      let l : i < size q = subst (λ (n : ℕ). i < n) h.sized b in
      consistent_alone q v (carried p q s) carried_consistent i (at t i) l (subst (λ (P : Program). Shows P i (at t i)) same (h.shown i l)))

-- to the same program
module _ (p : Program) (v : Valid p) (s : List ℕ) (consistent : Consistent p s) where
  pub carried_same : carried p p s ≡ s
  carried_same =
      ext_get_or 0 (carried p p s) s (length_carried p p s ∙ sym consistent.0) (λ i b.
      passives_unique p v (at (carried p p s)) (at s) (carried_consistent p p v s).1 consistent.1
      (λ j l a. carried_kept p p v s j (below_active p j l a) (below_active p j l a)) i (subst (λ (n : ℕ). i < n) (length_carried p p s) b))
