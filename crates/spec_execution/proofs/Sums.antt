-- Sums over the numbers below n, and over a list that holds some of them: what is not marked yet is what is still to be
-- added. By induction.
use Rattle.lib_base.proofs.Prelude.{ℕ, ◌<◌, ◌+◌, suc, zero, ◌≡◌, refl, ◌∙◌, true, false, Bool, false≢true, true≢false}
use Rattle.lib_base.proofs.Prelude.{List, [], ◌∷◌, map, sum, flatten, length, length-set, set, length-append, arith}
use Rattle.lib_base.specs.Basics.{pick}
use Rattle.spec_language.specs.Order.{up_to}
use Rattle.spec_semantics.proofs.Graph.{Marked, Unmarked}
use Rattle.spec_semantics.proofs.OrderLaws.{Ordered, mark_all}

pub length_flatten : {A : Type 0} (n : ℕ) (f : ℕ → List A) → length (flatten (up_to n f)) ≡ sum ◌+◌ 0 (up_to n (λ i. length (f i)))
unfolding up_to flatten sum
length_flatten zero f = refl
length_flatten (suc n) f = rw (length-append (f 0) (flatten (up_to n (λ i. f (suc i)))), length_flatten n (λ i. f (suc i)))

pub sum_add : (n : ℕ) (f g : ℕ → ℕ) → sum ◌+◌ 0 (up_to n (λ i. f i + g i)) ≡ sum ◌+◌ 0 (up_to n f) + sum ◌+◌ 0 (up_to n g)
unfolding up_to sum
sum_add zero f g = refl
sum_add (suc n) f g = rw (sum_add n (λ i. f (suc i)) (λ i. g (suc i))) (omega arith)

-- g of each number that is not marked
unfoldable pub unpaid : (ℕ → ℕ) → List Bool → ℕ
unpaid g [] = 0
unpaid g (b ∷ m) = pick b 0 (g 0) + unpaid (λ i. g (suc i)) m

unpaid_set : (g : ℕ → ℕ) (m : List Bool) (i : ℕ) → i < length m → Unmarked m i → unpaid g m ≡ g i + unpaid g (set m i true)
unfolding unpaid
unpaid_set g [] i h u = absurd (omega arith)
unpaid_set g (true ∷ m) zero h u = absurd (true≢false u)
unpaid_set g (false ∷ m) zero h u = omega arith
unpaid_set g (b ∷ m) (suc i) h u = rw (unpaid_set (λ j. g (suc j)) m i (omega arith) u) (omega arith)

unpaid_none : (g : ℕ → ℕ) (m : List Bool) → ((i : ℕ) → i < length m → Marked m i) → unpaid g m ≡ 0
unfolding unpaid
unpaid_none g [] h = refl
unpaid_none g (true ∷ m) h = rw (unpaid_none (λ i. g (suc i)) m (λ i b. h (suc i) (omega arith)))
unpaid_none g (false ∷ m) h = absurd (false≢true (h 0 (omega arith)))

-- where the marked ones have nothing to add, all is unpaid
unpaid_all : (g : ℕ → ℕ) (m : List Bool) → ((i : ℕ) → i < length m → Marked m i → g i ≡ 0) → unpaid g m ≡ sum ◌+◌ 0 (up_to (length m) g)
unfolding unpaid up_to sum
unpaid_all g [] h = refl
unpaid_all g (true ∷ m) h = rw (h 0 (omega arith) refl, unpaid_all (λ i. g (suc i)) m (λ i b. h (suc i) (omega arith)))
unpaid_all g (false ∷ m) h = rw (unpaid_all (λ i. g (suc i)) m (λ i b. h (suc i) (omega arith)))

module _ (n : ℕ) (dep : ℕ → ℕ → Bool) (g : ℕ → ℕ) where
  paid : (is : List ℕ) (m : List Bool) → length m ≡ n → Ordered n dep m is → sum ◌+◌ 0 (map g is) + unpaid g (mark_all is m) ≡ unpaid g m
  unfolding sum
  paid [] m l o = omega arith
  paid (i ∷ is) m l o =
      let ih : sum ◌+◌ 0 (map g is) + unpaid g (mark_all is (set m i true)) ≡ unpaid g (set m i true) = paid is (set m i true) (simp length-set l) o.3 in
      omega (arith, unpaid_set g m i (omega arith) o.1)

  length_marks : (is : List ℕ) (m : List Bool) → length (mark_all is m) ≡ length m
  length_marks [] m = refl
  length_marks (i ∷ is) m = length_marks is (set m i true) ∙ length-set m i true

  -- an order in which everyone is marked in the end adds up to everyone, if those marked at the start have nothing to
  -- add
  pub total_is_sum : (is : List ℕ) (m : List Bool) → length m ≡ n → Ordered n dep m is → ((i : ℕ) → i < n → Marked (mark_all is m) i)
      → ((i : ℕ) → i < n → Marked m i → g i ≡ 0) → sum ◌+◌ 0 (map g is) ≡ sum ◌+◌ 0 (up_to n g)
  total_is_sum is m l o all late =
      let none_left : unpaid g (mark_all is m) ≡ 0 = unpaid_none g (mark_all is m) (λ i b. all i (omega (arith, length_marks is m))) in
      let at_start : unpaid g m ≡ sum ◌+◌ 0 (up_to n g) = rw (← l) (unpaid_all g m (λ i b. late i (omega arith))) in
      omega (arith, paid is m l o)
