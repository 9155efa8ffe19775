-- What a loop has summed so far. A share is small, so that the sum fits.
use Rattle.lib_base.proofs.Prelude.{ℕ, ◌≤◌, ◌<◌, ◌+◌, suc, zero, ◌*◌, ◌≡◌, sym, List, eqb, add-one, arith}
use native.Mathlib.Nat.{add-zero}
use Rattle.lib_base.proofs.Tools.{by_test}
use Rattle.draft_form.specs.Draft.{entry_of}
use Rattle.draft_form.specs.Entry.{entry_kind, entry_start, entry_count}
use Rattle.back_counts.specs.Counts.{EntriesInside, total, share_of, is_member, count_members}

-- ---- what is asked of a draft

pub sound_at : {d : List ℕ} {e n i : ℕ} → EntriesInside d e n → i < n → EntriesInside d e (i + 1)
sound_at s b = record { long = s.long; few = omega (arith, s.few); inside = λ j h. s.inside j (omega arith) }

pub sound_inside : {d : List ℕ} {e n i v : ℕ} → EntriesInside d e n → i < n → v ≡ entry_of d e i → entry_start v + entry_count v ≤ 2048
sound_inside {i} s b is = rw is (s.inside i b)

-- ---- small sums

pub share_small : (v : ℕ) → entry_count v ≤ 2048 → share_of v ≤ 4100
unfolding share_of
share_small v h =
    by_test (λ x. x ≤ 4100) (eqb (entry_kind v) 1) (λ _. omega arith)
    (λ _. by_test (λ x. x ≤ 4100) (eqb (entry_kind v) 2) (λ _. omega arith)
    (λ _. by_test (λ x. x ≤ 4100) (eqb (entry_kind v) 3) (λ _. omega arith) (λ _. omega arith)))

pub member_small : (v : ℕ) → is_member v ≤ 1
unfolding is_member
member_small v = by_test (λ x. x ≤ 1) (eqb v 0) (λ _. omega arith) (λ _. omega arith)

pub total_le : (f : ℕ → ℕ) (b n : ℕ) → ((i : ℕ) → i < n → f i ≤ b) → total n f ≤ n * b
unfolding total
total_le f b zero h = omega arith
total_le f b (suc n) h = omega (arith, total_le f b n (λ i c. h i (omega arith)), h n (omega arith))

members_small : (d : List ℕ) (e n : ℕ) → count_members d e n ≤ n
unfolding count_members
members_small d e n = omega (arith, total_le (λ i. is_member (entry_of d e i)) 1 n (λ i b. member_small (entry_of d e i)))

pub members_fit : (d : List ℕ) (e n r : ℕ) → r ≡ count_members d e n → n ≤ 64 → r ≤ 64
members_fit d e n r q h = omega (arith, members_small d e n)

-- ---- loops

total_one : (f : ℕ → ℕ) (i : ℕ) → total (i + 1) f ≡ total i f + f i
unfolding total
total_one f i = rw add-one

-- a loop has added those below i to a
pub record Sum (f : ℕ → ℕ) (a i s : ℕ) : Type 0 where
  pub whole : s ≡ a + total i f
  pub small : s ≤ a + i * 4100

module _ {f : ℕ → ℕ} {a : ℕ} where
  pub sum_start : Sum f a 0 a
  unfolding total
  sum_start = record { whole = omega arith; small = omega arith }

  pub sum_turn : {i s r : ℕ} → Sum f a i s → r ≡ f i → r ≤ 4100 → Sum f a (i + 1) (s + r)
  sum_turn {i} u e h = record { whole = omega (arith, u.whole, total_one f i); small = omega (arith, u.small) }

  pub sum_end : {i n s : ℕ} → Sum f a i s → i ≡ n → s ≡ a + total n f
  sum_end u e = rw (← e) u.whole

  -- of a count: the next is counted, or not
  pub sum_one : {i s : ℕ} → Sum f a i s → f i ≡ 1 → Sum f a (i + 1) (s + 1)
  sum_one u e = sum_turn u (sym e) (omega arith)

  pub sum_none : {i s : ℕ} → Sum f a i s → f i ≡ 0 → Sum f a (i + 1) s
  sum_none {s = s} u e = rw (add-zero s) at (sum_turn u (sym e) (omega arith))
