-- The choice of the next: it is one of those that wait, and none of them outranks it; whether any of them is above a
-- rank depends on nothing but their words. By induction on how many wait.
use Rattle.lib_base.proofs.Prelude.{ℕ, ◌≤◌, ◌<◌, suc, zero, ◌≡◌, refl, true, false, false≢true, true≢false, List, eqb}
use Rattle.lib_base.proofs.Prelude.{ltb, eqb-true, le-ltb, ltb-false, eqb-false, ltb-true, arith}
use Rattle.lib_base.proofs.Tools.{by_test, split}
use Rattle.format_layout.specs.Layout.{event_word, number_at, word_at, event_at}
use Rattle.run_queue.specs.Queue.{ahead, either_slot, better, best, any_above}

module _ (t l : List ℕ) where
  abbrev pub rank_at : ℕ → ℕ
  rank_at i = event_word t (event_at l i) 0

  best_most : (n : ℕ) → best t l n ≤ n
  unfolding best better either_slot
  best_most zero = omega arith
  best_most (suc n) =
      let b = best t l n in
      let k : b ≤ n = best_most n in
      by_test (λ (x : ℕ). x ≤ suc n) (ahead (rank_at n) (number_at l n) (rank_at b) (number_at l b)) (λ _. omega arith) (λ _. omega arith)

  pub best_within : (n : ℕ) → 0 < n → best t l n < n
  unfolding best better either_slot
  best_within zero h = absurd (omega arith)
  best_within (suc n) h =
      let b = best t l n in
      let k : b ≤ n = best_most n in
      by_test (λ (x : ℕ). x < suc n) (ahead (rank_at n) (number_at l n) (rank_at b) (number_at l b)) (λ _. omega arith) (λ _. omega arith)

  ahead_true : (p n q m : ℕ) → ahead p n q m ≡ true → q ≤ p
  unfolding ahead
  ahead_true p n q m h =
      split (ltb q p) (λ e. omega (arith, ltb-true q p e))
      (λ e. split (ltb p q) (λ f. absurd (false≢true (rw (e, f) at h))) (λ f. omega (arith, ltb-false p q f)))

  ahead_false : (p n q m : ℕ) → ahead p n q m ≡ false → p ≤ q
  unfolding ahead
  ahead_false p n q m h = split (ltb q p) (λ e. absurd (true≢false (rw e at h))) (λ e. omega (arith, ltb-false q p e))

  -- neither of two outranks the better one
  better_leads : (i b : ℕ) → (rank_at i ≤ rank_at (better t l i b)) × (rank_at b ≤ rank_at (better t l i b))
  unfolding better either_slot
  better_leads i b =
      by_test (λ (x : ℕ). (rank_at i ≤ rank_at x) × (rank_at b ≤ rank_at x)) (ahead (rank_at i) (number_at l i) (rank_at b) (number_at l b))
      (λ e. (omega arith, ahead_true (rank_at i) (number_at l i) (rank_at b) (number_at l b) e))
      (λ e. (ahead_false (rank_at i) (number_at l i) (rank_at b) (number_at l b) e, omega arith))

  pub best_leads : (n i : ℕ) → i < n → rank_at i ≤ rank_at (best t l n)
  unfolding best
  best_leads zero i h = absurd (omega arith)
  best_leads (suc n) i h =
      let k = better_leads n (best t l n) in
      split (eqb i n) (λ e. rw (eqb-true i n e) k.0) (λ e. omega (arith, k.1, best_leads n i (omega (arith, eqb-false i n e))))

-- some that wait are above p: none where none of the words has a higher rank, and alike where the words are
module _ (t l : List ℕ) (p : ℕ) where
  pub none_above : (n : ℕ) → ((i : ℕ) → i < n → rank_at t l i ≤ p) → any_above t l p n ≡ false
  unfolding any_above
  none_above zero h = refl
  none_above (suc n) h = rw (le-ltb p (rank_at t l n) (h n (omega arith))) (none_above n (λ i b. h i (omega arith)))

  pub above_same : (m : List ℕ) (n : ℕ) → ((i : ℕ) → i < n → word_at m i ≡ word_at l i) → any_above t m p n ≡ any_above t l p n
  unfolding any_above
  above_same m zero h = refl
  above_same m (suc n) h = rw (h n (omega arith), above_same m n (λ i b. h i (omega arith)))
