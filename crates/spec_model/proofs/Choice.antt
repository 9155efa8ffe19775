-- The choice of the next is a leader of the waiting, and the only one: so it does not depend on their order. By
-- induction on the list, and by distinct numbers.
use Rattle.lib_base.proofs.Prelude.{ℕ, ◌≤◌, suc, ◌≡◌, refl, ◌∙◌, sym, ap, subst, true, false, Bool, false≢true}
use Rattle.lib_base.proofs.Prelude.{true≢false, ◌≢◌, List, [], ◌∷◌, map, List-as-Permᴰ, List·Permᴰ·trans, List-as-Nodup}
use Rattle.lib_base.proofs.Prelude.{List·Permᴰ·cons, List·Permᴰ·swap, Permᴰ·symm, List·Permᴰ·nil, Permᴰ·refl, length}
use Rattle.lib_base.proofs.Prelude.{eqb, ltb, ne_eqb, eq-eqb, ltb-false, ltb-true, arith}
use mathlib.Core.List.Perm
use mathlib.Core.List.Permᴰ
use mathlib.Core.List.{Mem, not-mem-nil, mem_of_ne_of_mem, mem-map_of_mem, Nodup-cons, rel_of_Pairwise-cons}
use Rattle.lib_base.specs.Basics.{pick, All}
use Rattle.lib_base.proofs.Tools.{by_test, all_perm, all_imp, all_of_mem}
use Rattle.spec_language.specs.Syntax.{Program}
use Rattle.spec_model.specs.Model.{Arrival, Chosen, rank, before, choose}

abbrev pub numbers : List Arrival → List ℕ
numbers l = map (λ (a : Arrival). a.number) l

-- ---- permutations

pub perm_length : {l m : List Arrival} → List-as-Permᴰ l m → length l ≡ length m
perm_length List·Permᴰ·nil = refl
perm_length (List·Permᴰ·cons e d) = ap suc (perm_length d)
perm_length (List·Permᴰ·swap e f) = refl
perm_length (List·Permᴰ·trans d e) = perm_length d ∙ perm_length e

-- the list without what has number n
abbrev pub without : ℕ → List Arrival → List Arrival
without n [] = []
without n (x ∷ l) = pick (eqb x.number n) (without n l) (x ∷ without n l)

keep_both : (b : Bool) (x : Arrival) {l m : List Arrival} → List-as-Permᴰ l m → List-as-Permᴰ (pick b l (x ∷ l)) (pick b m (x ∷ m))
keep_both true x d = d
keep_both false x d = List·Permᴰ·cons refl d

keep_swap : (p q : Bool) (x y : Arrival) (l : List Arrival)
    → List-as-Permᴰ (pick p (pick q l (y ∷ l)) (x ∷ pick q l (y ∷ l))) (pick q (pick p l (x ∷ l)) (y ∷ pick p l (x ∷ l)))
keep_swap true true x y l = Permᴰ·refl l
keep_swap true false x y l = Permᴰ·refl (y ∷ l)
keep_swap false true x y l = Permᴰ·refl (x ∷ l)
keep_swap false false x y l = List·Permᴰ·swap refl refl

without_perm : (n : ℕ) {l m : List Arrival} → List-as-Permᴰ l m → List-as-Permᴰ (without n l) (without n m)
without_perm n List·Permᴰ·nil = List·Permᴰ·nil
without_perm n (List·Permᴰ·cons {a = a} {l₁ = l} {l₂ = m} e d) =
    subst (λ (x : Arrival). List-as-Permᴰ (without n (a ∷ l)) (without n (x ∷ m))) e (keep_both (eqb a.number n) a (without_perm n d))
without_perm n (List·Permᴰ·swap {a = a} {b = b} {b' = z} {l = l} e f) =
    subst (λ (x : Arrival). List-as-Permᴰ (without n (a ∷ (b ∷ l))) (without n (x ∷ (z ∷ l)))) f
    (subst (λ (x : Arrival). List-as-Permᴰ (without n (a ∷ (b ∷ l))) (without n (b ∷ (x ∷ l)))) e
    (keep_swap (eqb a.number n) (eqb b.number n) a b (without n l)))
without_perm n (List·Permᴰ·trans d e) = List·Permᴰ·trans (without_perm n d) (without_perm n e)

without_none : (n : ℕ) (l : List Arrival) → All (λ y. n ≢ y.number) l → without n l ≡ l
without_none n [] h = refl
without_none n (x ∷ l) h = rw (ne_eqb x.number n (λ e. h.0 (sym e)), without_none n l h.1)

pub distinct_numbers : {l m : List Arrival} → List-as-Permᴰ l m → List-as-Nodup (numbers l) → List-as-Nodup (numbers m)
distinct_numbers d h = Perm.nodup ∣ Permᴰ.map _ d ∣₁ h

-- a number that no other has
pub no_other : (n : ℕ) (l : List Arrival) → List-as-Nodup (n ∷ numbers l) → All (λ y. n ≢ y.number) l
no_other n l h = all_of_mem _ l (λ y m. rel_of_Pairwise-cons h (mem-map_of_mem _ m))

absent : (n : ℕ) (l : List Arrival) → All (λ y. n ≢ y.number) l → Mem n (numbers l) → ⊥
absent n [] h m = not-mem-nil m
absent n (a ∷ l) h m = absent n l h.1 (mem_of_ne_of_mem h.0 m)

pub new_number : (n : ℕ) (l : List Arrival) → All (λ y. n ≢ y.number) l → List-as-Nodup (numbers l) → List-as-Nodup (n ∷ numbers l)
new_number n l h k = Nodup-cons.1 (absent n l h, k)

-- the same head may go
pub perm_rest : (a : Arrival) {l m : List Arrival} → List-as-Permᴰ (a ∷ l) (a ∷ m) → List-as-Nodup (numbers (a ∷ m)) → List-as-Permᴰ l m
perm_rest a {l} {m} d h =
    let n = a.number in
    let k = distinct_numbers (Permᴰ·symm d) h in
    rw (eq-eqb n n refl, without_none n l (no_other n l k), without_none n m (no_other n m h)) at (without_perm n d)

-- ---- the choice

module _ (p : Program) where
  -- a goes before b, or they are of one priority and number
  abbrev pub Leads : Arrival → Arrival → Type 0
  Leads a b = (rank p b ≤ rank p a) × (rank p b ≡ rank p a → a.number ≤ b.number)

  pub leads_trans : (a b c : Arrival) → Leads a b → Leads b c → Leads a c
  leads_trans a b c q r = (omega arith, λ e. omega (arith, q.1 (omega arith), r.1 (omega arith)))

  abbrev pub Says : Arrival → Arrival → Bool → Type 0
  Says b a t = (t ≡ true → Leads b a) × (t ≡ false → Leads a b)

  pub before_says : (b a : Arrival) → Says b a (before p b a)
  before_says b a =
      by_test (Says b a) (ltb (rank p a) (rank p b)) (λ e. (λ q. omega (arith, ltb-true), λ q. absurd (true≢false q)))
      (λ d. by_test (Says b a) (ltb (rank p b) (rank p a)) (λ e. (λ q. absurd (false≢true q), λ q. omega (arith, ltb-true)))
      (λ e. (λ q. omega (arith, ltb-true, ltb-false), λ q. omega (arith, ltb-false))))

  -- the next and the others are the list
  pub choose_perm : (a : Arrival) (l : List Arrival) → List-as-Permᴰ (a ∷ l) ((choose p a l).next ∷ (choose p a l).others)
  choose_perm a [] = Permᴰ·refl (a ∷ [])
  choose_perm a (b ∷ l) =
      by_test (λ (c : Chosen). List-as-Permᴰ (a ∷ (b ∷ l)) (c.next ∷ c.others)) (before p b a)
      (λ e. List·Permᴰ·trans (List·Permᴰ·cons refl (choose_perm b l)) (List·Permᴰ·swap refl refl))
      (λ e. List·Permᴰ·trans (List·Permᴰ·swap refl refl) (List·Permᴰ·trans (List·Permᴰ·cons refl (choose_perm a l)) (List·Permᴰ·swap refl refl)))

  -- the next leads all others
  pub choose_first : (a : Arrival) (l : List Arrival) → Leads (choose p a l).next a × All (Leads (choose p a l).next) (choose p a l).others
  choose_first a [] = ((omega arith, λ e. omega arith), tt)
  choose_first a (b ∷ l) =
      by_test (λ (c : Chosen). Leads c.next a × All (Leads c.next) c.others) (before p b a)
      (λ e. let ih = choose_first b l in let s = leads_trans (choose p b l).next b a ih.0 ((before_says b a).0 e) in (s, (s, ih.1)))
      (λ e. let ih = choose_first a l in (ih.0, (leads_trans (choose p a l).next a b ih.0 ((before_says b a).1 e), ih.1)))

  pub choose_length : (a : Arrival) (l : List Arrival) → length (choose p a l).others ≡ length l
  choose_length a [] = refl
  choose_length a (b ∷ l) =
      by_test (λ (c : Chosen). length c.others ≡ suc (length l)) (before p b a) (λ e. ap suc (choose_length b l)) (λ e. ap suc (choose_length a l))

  -- two that lead the same list are one, if its numbers are distinct
  pub one_next : (a b : Arrival) (l m : List Arrival) → List-as-Permᴰ (a ∷ l) (b ∷ m) → All (Leads a) (a ∷ l) → All (Leads b) m
      → List-as-Nodup (numbers (b ∷ m)) → a ≡ b
  one_next a b l m d q r h =
      let x : Leads a b = (all_perm (Leads a) d q).0 in
      let y : Leads b a = (all_perm (Leads b) (Permᴰ·symm d) ((omega arith, λ e. omega arith), r)).0 in
      let n : a.number ≡ b.number = omega (arith, x.1 (omega arith), y.1 (omega arith)) in
      (all_perm (λ (z : Arrival). z.number ≡ b.number → z ≡ b) (Permᴰ·symm d)
      ((λ e. refl), all_imp _ _ (λ z k e. absurd (k (sym e))) m (no_other b.number m h))).0 n
