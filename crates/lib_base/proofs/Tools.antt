-- General tools: tests kept as equations, `All`, permutations.
use Rattle.lib_base.proofs.Prelude.{ℕ, ◌<◌, suc, zero, ◌≡◌, refl, sym, subst, true, false, Bool, ◌||◌}
use Rattle.lib_base.proofs.Prelude.{false≢true, true≢false, ◌≢◌, ◌⊎◌, ⊎_elim, inr, inl, Option, some, none, List}
use Rattle.lib_base.proofs.Prelude.{[], ◌∷◌, ◌++◌, List-as-Permᴰ, List·Permᴰ·trans, List·Permᴰ·cons}
use Rattle.lib_base.proofs.Prelude.{List·Permᴰ·swap, List·Permᴰ·nil, List-as-Memᴰ, length, get_or, eqb, eqb-true}
use Rattle.lib_base.proofs.Prelude.{eqb-false, arith}
use mathlib.Core.Logic.{∥∥₁_elim}
use Rattle.lib_base.specs.Basics.{pick, All}
use mathlib.Core.List.Memᴰ
use mathlib.Core.List.{Mem, mem-cons_self, mem-cons_of_mem}

-- to prove P of a branch: prove it of each arm, the test's outcome given as an equation
pub by_test {ℓ} : {A : Type ℓ} (P : A → Type 0) (b : Bool) {x y : A} → (b ≡ true → P x) → (b ≡ false → P y) → P (pick b x y)
by_test P true t f = t refl
by_test P false t f = f refl

pub or_either : (b c : Bool) → b || c ≡ true → (b ≡ true) ⊎ (c ≡ true)
or_either true c e = inl refl
or_either false c e = inr e

-- a check that passes, and does not where b holds: b does not hold, and the rest passes
pub past : (b x : Bool) → pick b false x ≡ true → (b ≡ false) × (x ≡ true)
past true x e = absurd (false≢true e)
past false x e = (refl, e)

-- and where it does not unless b holds
pub through : (b x : Bool) → pick b x false ≡ true → (b ≡ true) × (x ≡ true)
through true x e = (refl, e)
through false x e = absurd (false≢true e)

-- neither of two tests
pub neither : (b c : Bool) → pick b true c ≡ false → (b ≡ false) × (c ≡ false)
neither true c h = absurd (true≢false h)
neither false c h = (refl, h)

pub none_of : (b c : Bool) → b || c ≡ false → (b ≡ false) × (c ≡ false)
none_of true c h = absurd (true≢false h)
none_of false c h = (refl, h)

-- a number that a test chooses, or 0: which of the two it is
pub chosen : (b : Bool) (v : ℕ) → pick b v 0 ≢ 0 → (b ≡ true) × (pick b v 0 ≡ v)
chosen true v h = (refl, refl)
chosen false v h = absurd (h refl)

pub not_chosen : (b : Bool) (v : ℕ) → v ≢ 0 → pick b v 0 ≡ 0 → b ≡ false
not_chosen true v n h = absurd (n h)
not_chosen false v n h = refl

pub passed : (b : Bool) (v : ℕ) → pick b 0 v ≢ 0 → (b ≡ false) × (pick b 0 v ≡ v)
passed true v h = absurd (h refl)
passed false v h = (refl, refl)

-- two tests that imply each other
pub same_answer : (b c : Bool) → (b ≡ true → c ≡ true) → (c ≡ true → b ≡ true) → b ≡ c
same_answer true c h k = sym (h refl)
same_answer false true h k = k refl
same_answer false false h k = refl

-- a test's two outcomes, where the goal does not branch on it
pub split {ℓ} : {C : Type ℓ} (b : Bool) → (b ≡ true → C) → (b ≡ false → C) → C
split true t f = t refl
split false t f = f refl

-- the same test on both sides
pub by_two : {A B : Type 0} (P : A → B → Type 0) (b : Bool) {x y : A} {u v : B} → (b ≡ true → P x u) → (b ≡ false → P y v) → P (pick b x y) (pick b u v)
by_two P true t f = t refl
by_two P false t f = f refl

-- the same for a branch written `elim b [ true ↦ .. | false ↦ .. ]`, whose arms wait: the form for a recursion that
-- branches
pub by_elim {ℓ} : {A : Type ℓ} (P : A → Type 0) (b : Bool) {x y : A} → (b ≡ true → P x) → (b ≡ false → P y) → P (elim b [ true ↦ x | false ↦ y ])
by_elim P true t f = t refl
by_elim P false t f = f refl

-- ---- a check of all numbers below a bound

unfoldable pub all_below : ℕ → (ℕ → Bool) → Bool
all_below zero f = true
all_below (suc n) f = pick (f n) (all_below n f) false

pub each_below : (n : ℕ) (f : ℕ → Bool) → all_below n f ≡ true → (i : ℕ) → i < n → f i ≡ true
unfolding all_below
each_below zero f h i l = absurd (omega arith)
each_below (suc n) f h i l =
    let r = through (f n) (all_below n f) h in
    split (eqb i n) (λ e. let q : i ≡ n = eqb-true i n e in rw q r.0) (λ e. each_below n f r.1 i (omega (arith, eqb-false i n e)))

-- to prove P of a match on an option
pub by_option : {A B : Type 0} (P : B → Type 0) (o : Option A) {x : B} {f : A → B} → (o ≡ none → P x) → ((a : A) → o ≡ some a → P (f a))
    → P (elim o [ none ↦ x | some a ↦ f a ])
by_option P none h k = h refl
by_option P (some a) h k = k a refl

module _ {A : Type 0} (P : A → Type 0) where
  pub all_perm : {l m : List A} → List-as-Permᴰ l m → All P l → All P m
  all_perm List·Permᴰ·nil h = h
  all_perm (List·Permᴰ·cons e d) h = (subst P e h.0, all_perm d h.1)
  all_perm (List·Permᴰ·swap e₁ e₂) h = (subst P e₂ h.1.0, (subst P e₁ h.0, h.1.1))
  all_perm (List·Permᴰ·trans d e) h = all_perm e (all_perm d h)

  pub all_imp : (Q : A → Type 0) → ((x : A) → P x → Q x) → (l : List A) → All P l → All Q l
  all_imp Q f [] h = tt
  all_imp Q f (x ∷ l) h = (f x h.0, all_imp Q f l h.1)

  pub all_join : (l m : List A) → All P l → All P m → All P (l ++ m)
  all_join [] m h k = k
  all_join (x ∷ l) m h k = (h.0, all_join l m h.1 k)

  pub all_split : (l m : List A) → All P (l ++ m) → All P l × All P m
  all_split [] m h = (tt, h)
  all_split (x ∷ l) m h = let r = all_split l m h.1 in ((h.0, r.0), r.1)

  -- what holds of every member holds at a place within, or anywhere if it holds of the value beyond the end
  pub all_at : (l : List A) (i : ℕ) (d : A) → All P l → i < length l → P (get_or l i d)
  all_at [] i d h b = absurd (omega arith)
  all_at (x ∷ l) zero d h b = h.0
  all_at (x ∷ l) (suc i) d h b = all_at l i d h.1 (omega arith)

  pub all_at_or : (l : List A) (i : ℕ) (d : A) → All P l → P d → P (get_or l i d)
  all_at_or [] i d h b = b
  all_at_or (x ∷ l) zero d h b = h.0
  all_at_or (x ∷ l) (suc i) d h b = all_at_or l i d h.1 b

  -- what holds of all holds of a member, also of one that is merely known to be there; and back
  pub all_member : {x : A} (l : List A) → All P l → List-as-Memᴰ x l → P x
  all_member [] h m = absurd (Memᴰ.not-nil m)
  all_member (y ∷ l) h m = ⊎_elim (λ e. subst P (sym e) h.0) (λ k. all_member l h.1 k) (Memᴰ.cases_cons m)

  pub all_mem : ((x : A) → IsProp (P x)) → (l : List A) → All P l → (x : A) → Mem x l → P x
  all_mem p l h x m = ∥∥₁_elim m (p x) (all_member l h)

  pub all_of_mem : (l : List A) → ((x : A) → Mem x l → P x) → All P l
  all_of_mem [] h = tt
  all_of_mem (x ∷ l) h = (h x mem-cons_self, all_of_mem l (λ y m. h y (mem-cons_of_mem x m)))
