-- The best of the first i, and one slot more.
use Rattle.lib_base.proofs.Prelude.{ℕ, ◌<◌, ◌+◌, ◌≡◌, refl, ◌∙◌, sym, true, false, Bool, List, add-one, arith}
use Rattle.lib_base.proofs.Tools.{by_test}
use Rattle.format_layout.specs.Layout.{event_word, number_at, event_at}
use Rattle.run_queue.specs.Queue.{ahead, either_slot, better, best}

-- b is the best of the first i, with priority q and number m
pub record Turn (t l : List ℕ) (b q m i : ℕ) : Type 0 where
  pub same : b ≡ best t l i
  priority : q ≡ event_word t (event_at l b) 0
  number : m ≡ number_at l b
  pub small : b < i

first_best : (t l : List ℕ) → 0 ≡ best t l 1
unfolding best better either_slot
first_best t l =
    by_test (λ x. 0 ≡ x) (ahead (event_word t (event_at l 0) 0) (number_at l 0) (event_word t (event_at l 0) 0) (number_at l 0))
    (λ e. refl) (λ e. refl)

-- the best of the first one is slot 0, whatever it holds
pub begun : (t l : List ℕ) (q m : ℕ) → q ≡ event_word t (event_at l 0) 0 → m ≡ number_at l 0 → Turn t l 0 q m 1
begun t l q m d e = record { same = first_best t l; priority = d; number = e; small = omega arith }

-- slot i against the best of the first i
module _ {t l : List ℕ} {b q m i p k : ℕ} {x : Bool} (u : Turn t l b q m i)
    (f : p ≡ event_word t (event_at l i) 0) (g : k ≡ number_at l i) (e : x ≡ ahead p k q m) where
  next_best : best t l (i + 1) ≡ either_slot x i b
  unfolding best better
  next_best = rw (add-one i, ← u.same, e, f, g, u.priority, u.number)

  pub taken : x ≡ true → Turn t l i p k (i + 1)
  unfolding either_slot
  taken y = record { same = sym (next_best ∙ rw y); priority = f; number = g; small = omega arith }

  pub stays : x ≡ false → Turn t l b q m (i + 1)
  unfolding either_slot
  stays y = record { same = sym (next_best ∙ rw y); priority = u.priority; number = u.number; small = omega (arith, u.small) }
