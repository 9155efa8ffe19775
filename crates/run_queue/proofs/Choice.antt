-- Some waiting has a priority above p just where the best has: of two slots the better has the higher priority, so that
-- the best of n + 1 has a priority above p where slot n or the best of n has. By induction on n.
use Rattle.lib_base.proofs.Prelude.{ℕ, ◌≤◌, ◌<◌, suc, zero, ◌≡◌, true, false, List, ltb, le-ltb, lt-ltb, ltb-false}
use Rattle.lib_base.proofs.Prelude.{ltb-true, arith}
use Rattle.lib_base.specs.Basics.{pick}
use Rattle.lib_base.proofs.Tools.{past, neither, split, by_test}
use Rattle.format_layout.specs.Layout.{event_word, number_at, event_at}
use Rattle.run_queue.specs.Queue.{ahead, either_slot, better, best, any_above}

abbrev priority : List ℕ → List ℕ → ℕ → ℕ
priority t l i = event_word t (event_at l i) 0

-- what goes before another has no lower a priority, and else no higher a one
ahead_high : (p n q m : ℕ) → ahead p n q m ≡ true → q ≤ p
unfolding ahead
ahead_high p n q m h =
    split (ltb q p)
    (λ e. omega (arith, ltb-true q p e))
    (λ e. ltb-false p q (past (ltb p q) (ltb n m) (rw e at h)).0)

ahead_low : (p n q m : ℕ) → ahead p n q m ≡ false → p ≤ q
unfolding ahead
ahead_low p n q m h = ltb-false q p (neither (ltb q p) (pick (ltb p q) false (ltb n m)) h).0

-- the higher of two priorities decides
first_above : (p q r : ℕ) → r ≤ q → pick (ltb p q) true (ltb p r) ≡ ltb p q
first_above p q r h = split (ltb p q) (λ e. rw e) (λ e. rw (e, le-ltb p r (omega (arith, ltb-false p q e))))

second_above : (p q r : ℕ) → q ≤ r → pick (ltb p q) true (ltb p r) ≡ ltb p r
second_above p q r h = split (ltb p q) (λ e. rw (e, lt-ltb p r (omega (arith, ltb-true p q e)))) (λ e. rw e)

-- the better of two, whichever it is
either_above : (t l : List ℕ) (p i b : ℕ) → pick (ltb p (priority t l i)) true (ltb p (priority t l b)) ≡ ltb p (priority t l (better t l i b))
unfolding better either_slot
either_above t l p i b =
    by_test (λ (x : ℕ). pick (ltb p (priority t l i)) true (ltb p (priority t l b)) ≡ ltb p (priority t l x))
    (ahead (priority t l i) (number_at l i) (priority t l b) (number_at l b))
    (λ e. first_above p (priority t l i) (priority t l b) (ahead_high (priority t l i) (number_at l i) (priority t l b) (number_at l b) e))
    (λ e. second_above p (priority t l i) (priority t l b) (ahead_low (priority t l i) (number_at l i) (priority t l b) (number_at l b) e))

pub any_above_law : (t l : List ℕ) (p n : ℕ) → 0 < n → any_above t l p n ≡ ltb p (priority t l (best t l n))
unfolding any_above best
any_above_law t l p zero h = absurd (omega arith)
any_above_law t l p (suc zero) h =
    split (ltb p (priority t l 0))
    (λ e. rw e (rw e at (either_above t l p 0 0)))
    (λ e. rw e (rw e at (either_above t l p 0 0)))
any_above_law t l p (suc (suc n)) h = rw (any_above_law t l p (suc n) (omega arith)) (either_above t l p (suc n) (best t l (suc n)))
