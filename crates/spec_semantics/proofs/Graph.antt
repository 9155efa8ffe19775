-- A non-empty set of which every member needs a member has one that reaches itself. Walk from a member to one that it
-- needs and mark on the way: the unmarked get fewer, and to land on a mark closes the cycle.
use Rattle.lib_base.proofs.Prelude.{ℕ, ◌≤◌, ◌<◌, suc, zero, ◌≡◌, refl, ◌∙◌, sym, ap, true, false, Bool, true≢false, ◌⊎◌}
use Rattle.lib_base.proofs.Prelude.{⊎_elim, inr, inl, List, [], ◌∷◌, length, get_or, length-set, set, replicate}
use Rattle.lib_base.proofs.Prelude.{length-replicate, get_or-set_other, get_or-set_same, eqb, eqb-true, eqb-false, arith}
use Rattle.lib_base.proofs.Tools.{split}
use Rattle.spec_language.specs.Dependence.{Reach, one, more}

abbrev pub Marked : List Bool → ℕ → Type 0
Marked m x = get_or m x false ≡ true

abbrev pub Unmarked : List Bool → ℕ → Type 0
Unmarked m x = get_or m x false ≡ false

-- how many are not marked
abbrev pub free : List Bool → ℕ
free [] = 0
free (true ∷ m) = free m
free (false ∷ m) = suc (free m)

pub free_set : (m : List Bool) (j : ℕ) → j < length m → Unmarked m j → free m ≡ suc (free (set m j true))
free_set [] j h e = absurd (omega arith)
free_set (true ∷ m) zero h e = absurd (true≢false e)
free_set (false ∷ m) zero h e = refl
free_set (true ∷ m) (suc j) h e = free_set m j (omega arith) e
free_set (false ∷ m) (suc j) h e = ap suc (free_set m j (omega arith) e)

pub free_le : (m : List Bool) → free m ≤ length m
free_le [] = omega arith
free_le (true ∷ m) = omega (arith, free_le m)
free_le (false ∷ m) = omega (arith, free_le m)

pub none_marked : (k x : ℕ) → Unmarked (replicate k false) x
none_marked zero x = refl
none_marked (suc k) zero = refl
none_marked (suc k) (suc x) = none_marked k x

pub marked_set : (m : List Bool) (j x : ℕ) → Marked (set m j true) x → (x ≡ j) ⊎ Marked m x
marked_set m j x h = split (eqb x j) (λ e. inl (eqb-true x j e)) (λ e. inr (rw (get_or-set_other m j x true false (eqb-false x j e)) at h))

-- a mark stays, and the new one is there
pub stays : (m : List Bool) (j x : ℕ) → x < length m → Marked m x → Marked (set m j true) x
stays m j x b h =
    split (eqb x j) (λ e. rw (eqb-true x j e) (get_or-set_same m j true false (omega (arith, eqb-true x j e))))
    (λ e. get_or-set_other m j x true false (eqb-false x j e) ∙ h)

module _ (n : ℕ) (dep : ℕ → ℕ → Bool) (within : (a b : ℕ) → dep a b ≡ true → (a < n) × (b < n)) where
  module _ (In : ℕ → Type 0) (stuck : (r : ℕ) → In r → (b : ℕ) × In b × (dep r b ≡ true)) where
    walk : (k r : ℕ) (m : List Bool) → In r → r < n → length m ≡ n → free m ≤ k → Unmarked m r → ((x : ℕ) → Marked m x → In x × Reach dep x r)
        → (x : ℕ) × In x × Reach dep x x
    walk zero r m ir b s h u all = absurd (omega (arith, free_set m r (omega arith) u))
    walk (suc k) r m ir b s h u all =
        let t = stuck r ir in
        let past : (x : ℕ) → Marked (set m r true) x → In x × Reach dep x t.0 =
        λ x p. ⊎_elim (λ e. (rw e ir, rw e (one t.2))) (λ q. ((all x q).0, more (all x q).1 t.2)) (marked_set m r x p) in
        split (get_or (set m r true) t.0 false) (λ e. let c = past t.0 e in (t.0, c.0, c.1))
        (λ e. walk k t.0 (set m r true) t.1 (within r t.0 t.2).1 (simp length-set s) (omega (arith, free_set m r (omega arith) u)) e past)

    pub cycle : (r : ℕ) → In r → (x : ℕ) × In x × Reach dep x x
    cycle r ir =
        let m : List Bool = replicate n false in
        let l : length m ≡ n = length-replicate n false in
        walk n r m ir (within r (stuck r ir).0 (stuck r ir).2).0 l (omega (arith, free_le m)) (none_marked n r)
        (λ x p. absurd (true≢false (sym p ∙ none_marked n x)))
