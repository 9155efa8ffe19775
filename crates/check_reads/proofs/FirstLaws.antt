-- What `first_from` says: the first answer that is not 0, and 0 exactly if all are; and the loop that seeks it.
use Rattle.lib_base.proofs.Prelude.{ℕ, ◌≤◌, ◌<◌, ◌+◌, ◌-◌, suc, zero, Bool, true, false, ◌≡◌, refl, ◌∙◌, sym, ap, ◌≢◌, by_cases, eqb}
use Rattle.lib_base.proofs.Prelude.{add-one, dec_lt, ne_eqb, eqb-true, eq-eqb, eqb-false, arith}
use Rattle.lib_base.specs.Basics.{pick}
use Rattle.lib_base.proofs.Tools.{split}
use Rattle.check_reads.specs.First.{first_from}

-- ---- one answer

pub first_skips : (k i : ℕ) (f : ℕ → ℕ) → f i ≡ 0 → first_from (suc k) i f ≡ first_from k (suc i) f
unfolding first_from
first_skips k i f h = rw (eq-eqb (f i) 0 h, first_from)

pub first_stops : (k i : ℕ) (f : ℕ → ℕ) → f i ≢ 0 → first_from (suc k) i f ≡ f i
unfolding first_from
first_stops k i f h = rw (ne_eqb (f i) 0 h, first_from)

pub first_same : (k i : ℕ) (f g : ℕ → ℕ) → ((j : ℕ) → i ≤ j → j < i + k → f j ≡ g j) → first_from k i f ≡ first_from k i g
unfolding first_from
first_same zero i f g h = refl
first_same (suc k) i f g h =
    let q : f i ≡ g i = h i (omega arith) (omega arith) in
    split (eqb (g i) 0)
    (λ t. first_skips k i f (q ∙ eqb-true (g i) 0 t) ∙ first_same k (suc i) f g (λ j a b. h j (omega arith) (omega arith)) ∙ sym (first_skips k i g (eqb-true (g i) 0 t)))
    (λ t. first_stops k i f (λ z. eqb-false (g i) 0 t (sym q ∙ z)) ∙ q ∙ sym (first_stops k i g (eqb-false (g i) 0 t)))

-- ---- 0 exactly if all are

pub first_none : (k i : ℕ) (f : ℕ → ℕ) → ((j : ℕ) → i ≤ j → j < i + k → f j ≡ 0) → first_from k i f ≡ 0
unfolding first_from
first_none zero i f h = refl
first_none (suc k) i f h = first_skips k i f (h i (omega arith) (omega arith)) ∙ first_none k (suc i) f (λ j a b. h j (omega arith) (omega arith))

-- the first that is not 0: it is the answer for some number, and those before are 0
pub record Found (k i : ℕ) (f : ℕ → ℕ) (v : ℕ) : Type 0 where
  pub place : ℕ
  pub from : i ≤ place
  pub below : place < i + k
  pub answer : f place ≡ v
  pub before : (j : ℕ) → i ≤ j → j < place → f j ≡ 0

pub first_found : (k i : ℕ) (f : ℕ → ℕ) (v : ℕ) → first_from k i f ≡ v → v ≢ 0 → Found k i f v
unfolding first_from
first_found zero i f v e h = absurd (h (sym e))
first_found (suc k) i f v e h =
    split (eqb (f i) 0)
    (λ t. let r = first_found k (suc i) f v (sym (first_skips k i f (eqb-true (f i) 0 t)) ∙ e) h in
    record {
      place = r.place;
      from = omega (arith, r.from);
      below = omega (arith, r.below);
      answer = r.answer;
      before = λ j a b. by_cases (dec_lt i j) (λ s. r.before j s b) (λ s. let q : i ≡ j = omega arith in rw q at (eqb-true (f i) 0 t));
    })
    (λ t. record {
      place = i;
      from = omega arith;
      below = omega arith;
      answer = sym (first_stops k i f (eqb-false (f i) 0 t)) ∙ e;
      before = λ j a b. absurd (omega arith);
    })

pub first_all : (k i : ℕ) (f : ℕ → ℕ) → first_from k i f ≡ 0 → (j : ℕ) → i ≤ j → j < i + k → f j ≡ 0
unfolding first_from
first_all zero i f e j a b = absurd (omega arith)
first_all (suc k) i f e j a b =
    split (eqb (f i) 0)
    (λ t. by_cases (dec_lt i j) (λ s. first_all k (suc i) f (sym (first_skips k i f (eqb-true (f i) 0 t)) ∙ e) j s (omega arith))
    (λ s. let q : i ≡ j = omega arith in rw q at (eqb-true (f i) 0 t)))
    (λ t. absurd (eqb-false (f i) 0 t (sym (first_stops k i f (eqb-false (f i) 0 t)) ∙ e)))

-- ---- where a set gives the answers

-- all before p are 0, and that for p is not
first_at : (k i p : ℕ) (f : ℕ → ℕ) → i ≤ p → p < i + k → ((j : ℕ) → i ≤ j → j < p → f j ≡ 0) → f p ≢ 0 → first_from k i f ≡ f p
first_at zero i p f a b h n = absurd (omega arith)
first_at (suc k) i p f a b h n =
    by_cases (dec_lt i p)
    (λ s. first_skips k i f (h i (omega arith) s) ∙ first_at k (suc i) p f s (omega arith) (λ j c d. h j (omega arith) d) n)
    (λ s. let q : p ≡ i = omega arith in rw q (first_stops k i f (rw q at n)))

-- of the set that f tells, the first gives the answer, where g gives none that is 0
module _ (n : ℕ) (f : ℕ → Bool) (g : ℕ → ℕ) where
  abbrev given : ℕ → ℕ
  given j = pick (f j) (g j) 0

  pub none_given : ((j : ℕ) → j < n → f j ≡ false) → 0 ≡ first_from n 0 given
  none_given w = sym (first_none n 0 given (λ j a b. rw (w j (omega arith))))

  pub first_given : (i : ℕ) → i < n → f i ≡ true → ((j : ℕ) → j < i → f j ≡ false) → g i ≢ 0 → g i ≡ first_from n 0 given
  first_given i h t w s =
      let here : given i ≡ g i = rw t in
      sym (first_at n 0 i given (omega arith) (omega arith) (λ j a b. rw (w j b)) (λ z. s (sym here ∙ z)) ∙ here)

-- ---- the loop: what is left decides the whole

pub record Seeking (f : ℕ → ℕ) (a n i : ℕ) : Type 0 where
  pub whole : first_from (n - i) i f ≡ first_from (n - a) a f

pub seek : (f : ℕ → ℕ) (a n : ℕ) → Seeking f a n a
seek f a n = record { whole = refl }

pub seek_on : {f : ℕ → ℕ} {a n i : ℕ} → Seeking f a n i → i < n → f i ≡ 0 → Seeking f a n (i + 1)
seek_on {f} {a} {n} {i} t h e =
    let s : n - i ≡ suc (n - (i + 1)) = omega arith in
    record { whole = ap (λ (k : ℕ). first_from (n - (i + 1)) k f) (add-one i) ∙ sym (first_skips (n - (i + 1)) i f e) ∙ (rw s at t.whole) }

pub seek_stop : {f : ℕ → ℕ} {a n i : ℕ} → Seeking f a n i → i < n → f i ≢ 0 → f i ≡ first_from (n - a) a f
seek_stop {f} {a} {n} {i} t h e =
    let s : n - i ≡ suc (n - (i + 1)) = omega arith in
    sym (first_stops (n - (i + 1)) i f e) ∙ (rw s at t.whole)

pub seek_end : {f : ℕ → ℕ} {a n i : ℕ} → Seeking f a n i → n ≤ i → 0 ≡ first_from (n - a) a f
unfolding first_from
seek_end {f} {a} {n} {i} t h = let s : n - i ≡ 0 = omega arith in rw s at t.whole
