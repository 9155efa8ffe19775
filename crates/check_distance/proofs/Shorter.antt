-- A circle in which a behaviour stands twice has a shorter one in it: from the first time to the second. So a shortest
-- circle has distinct members, as many as there are numbers at the most.
use Rattle.lib_base.proofs.Prelude.{ℕ, ◌≤◌, ◌<◌, ◌≡◌, ◌∙◌, sym, subst, true, false, Bool, ◌≢◌, ◌⊎◌, ⊎_elim, inr}
use Rattle.lib_base.proofs.Prelude.{inl, List, [], ◌∷◌, ◌++◌, List-as-Nodup, Pairwise·of-cons, Pairwise·cons, length}
use Rattle.lib_base.proofs.Prelude.{length-set, set, replicate, length-replicate, get_or-set_other, eqb, eqb-true}
use Rattle.lib_base.proofs.Prelude.{eqb-false, arith}
use mathlib.Core.HLevel.{→_prop, ⊥_prop}
use mathlib.Core.List.{rel_of_Pairwise-cons, Pairwise-singleton}
use Rattle.lib_base.specs.Basics.{All}
use Rattle.lib_base.proofs.Tools.{split, all_imp, all_mem, all_of_mem}
use Rattle.spec_language.specs.Dependence.{Reach, one, more}
use Rattle.spec_semantics.proofs.Graph.{Unmarked, free, free_set, free_le, none_marked}
use Rattle.check_distance.specs.Circle.{Chain, Circle}

module _ (dep : ℕ → ℕ → Bool) where
  -- a stands on the way, or a walk of fewer leads to it
  returns : (a u : ℕ) (l : List ℕ) (z : ℕ) → Chain dep u l z → All (λ y. a ≢ y) l ⊎ ((ys : List ℕ) × Chain dep u ys a × (length ys < length l))
  returns a u [] z c = inl tt
  returns a u (b ∷ l) z c =
      split (eqb a b)
      (λ t. inr ([], subst (λ (x : ℕ). dep u x ≡ true) (sym (eqb-true a b t)) c.0, omega arith))
      (λ t. ⊎_elim (λ h. inl (eqb-false a b t, h)) (λ w. inr (b ∷ w.0, (c.0, w.1), omega (arith, w.2))) (returns a b l z c.1))

  abbrev Shorter : ℕ → Type 0
  Shorter k = (l : List ℕ) × Circle dep l × (length l < k)

  chain_shorter : (a : ℕ) (l : List ℕ) (z : ℕ) → Chain dep a l z → List-as-Nodup (a ∷ l) ⊎ Shorter (length (a ∷ l))
  chain_shorter a [] z c = inl (Pairwise-singleton (λ x y. x ≢ y) a)
  chain_shorter a (b ∷ l) z c =
      ⊎_elim
      (λ h. ⊎_elim (λ d. inl (Pairwise·cons (all_mem (λ y. a ≢ y) (λ y. →_prop ⊥_prop) (b ∷ l) h) d)) (λ w. inr (w.0, w.1, omega (arith, w.2))) (chain_shorter b l z c.1))
      (λ w. inr (a ∷ w.0, w.1, omega (arith, w.2)))
      (returns a a (b ∷ l) z c)

  -- distinct members, or a shorter one
  pub shorter : (l : List ℕ) → Circle dep l → List-as-Nodup l ⊎ Shorter (length l)
  shorter [] c = absurd c
  shorter (a ∷ l) c = chain_shorter a l a c

  -- a stands on the way, and what follows leads from it, or it does not
  after : (a u : ℕ) (l : List ℕ) (z : ℕ) → Chain dep u l z → List-as-Nodup l → All (λ y. a ≢ y) l ⊎ ((ys : List ℕ) × Chain dep a ys z × List-as-Nodup (a ∷ ys))
  after a u [] z c d = inl tt
  after a u (b ∷ l) z c d =
      split (eqb a b)
      (λ t. let q : b ≡ a = sym (eqb-true a b t) in inr (l, subst (λ (x : ℕ). Chain dep x l z) q c.1, subst (λ (x : ℕ). List-as-Nodup (x ∷ l)) q d))
      (λ t. ⊎_elim (λ h. inl (eqb-false a b t, h)) inr (after a b l z c.1 (Pairwise·of-cons d)))

  -- from where it begins to where it ends there is a walk on which nobody stands twice
  pub straight : (u : ℕ) (l : List ℕ) (z : ℕ) → Chain dep u l z → (ys : List ℕ) × Chain dep u ys z × List-as-Nodup (u ∷ ys)
  straight u [] z c = ([], c, Pairwise-singleton (λ x y. x ≢ y) u)
  straight u (b ∷ l) z c =
      let w = straight b l z c.1 in
      ⊎_elim
      (λ h. (b ∷ w.0, (c.0, w.1), Pairwise·cons (all_mem (λ y. u ≢ y) (λ y. →_prop ⊥_prop) (b ∷ w.0) h) w.2))
      (λ v. v)
      (after u u (b ∷ w.0) z (c.0, w.1) w.2)

  -- ---- from chains of dependence

  pub chain_on : (a : ℕ) (l : List ℕ) (b c : ℕ) → Chain dep a l b → dep b c ≡ true → Chain dep a (l ++ (b ∷ [])) c
  chain_on a [] b c h d = (h, d)
  chain_on a (x ∷ l) b c h d = (h.0, chain_on x l b c h.1 d)

  pub reach_chain : {a c : ℕ} → Reach dep a c → (l : List ℕ) × Chain dep a l c
  reach_chain (one d) = ([], d)
  reach_chain {a} {c} (more {b = b} r d) = let w = reach_chain r in (w.0 ++ (b ∷ []), chain_on a w.0 b c w.1 d)

  -- whoever depends on something is below n
  pub chain_below : (n : ℕ) → ((a b : ℕ) → dep a b ≡ true → a < n) → (a : ℕ) (l : List ℕ) (z : ℕ) → Chain dep a l z → All (λ j. j < n) (a ∷ l)
  chain_below n w a [] z c = (w a z c, tt)
  chain_below n w a (b ∷ l) z c = (w a b c.0, chain_below n w b l z c.1)

-- ---- distinct numbers below n are at most n

fits_in : (l : List ℕ) (m : List Bool) → List-as-Nodup l → All (λ i. (i < length m) × Unmarked m i) l → length l ≤ free m
fits_in [] m d a = omega arith
fits_in (i ∷ l) m d a =
    let ih : length l ≤ free (set m i true) = fits_in l (set m i true) (Pairwise·of-cons d) (others l (all_of_mem (λ y. i ≢ y) l (λ y k. rel_of_Pairwise-cons d k)) a.1) in
    omega (arith, free_set m i a.0.0 a.0.1)
  where
    others : (l : List ℕ) → All (λ y. i ≢ y) l → All (λ y. (y < length m) × Unmarked m y) l → All (λ y. (y < length (set m i true)) × Unmarked (set m i true) y) l
    others [] n h = tt
    others (y ∷ l) n h =
        ((rw length-set h.0.0, get_or-set_other m i y true false (λ q. n.0 (sym q)) ∙ h.0.1), others l n.1 h.1)

pub distinct_few : (n : ℕ) (l : List ℕ) → List-as-Nodup l → All (λ j. j < n) l → length l ≤ n
distinct_few n l d a =
    let m : List Bool = replicate n false in
    let e : length m ≡ n = length-replicate n false in
    omega (arith, fits_in l m d (all_imp (λ j. j < n) (λ j. (j < length m) × Unmarked m j) (λ j h. (omega arith, none_marked n j)) l a), free_le m)
