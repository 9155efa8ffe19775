-- A buffer filled place by place: what stands at the places passed.
use Rattle.lib_base.proofs.Prelude.{ℕ, ◌≤◌, ◌<◌, ◌+◌, ◌≡◌, ◌≢◌, by_cases, List, length, get_or, set}
use Rattle.lib_base.proofs.Prelude.{get_or-set_other, get_or-set_same, dec_lt, arith}

pub record Filled (P : ℕ → ℕ → Type 0) (b : List ℕ) (i : ℕ) : Type 0 where
  pub done : (k : ℕ) → k < i → P k (get_or b k 0)

pub fill_none : (P : ℕ → ℕ → Type 0) (b : List ℕ) → Filled P b 0
fill_none P b = record { done = λ k h. absurd (omega arith) }

pub fill_one : {P : ℕ → ℕ → Type 0} {b : List ℕ} {i v : ℕ} → Filled P b i → i < length b → P i v → Filled P (set b i v) (i + 1)
fill_one {P} {b} {i} {v} f s p = record {
  done = λ k c. by_cases (dec_lt k i)
      (λ q. let d : k ≢ i = omega arith in rw (get_or-set_other b i k v 0 d) (f.done k q))
      (λ q. let e : k ≡ i = omega arith in rw (e, get_or-set_same b i v 0 s) p);
}

pub fill_end : {P : ℕ → ℕ → Type 0} {b : List ℕ} {i n : ℕ} → Filled P b i → n ≤ i → (k : ℕ) → k < n → P k (get_or b k 0)
fill_end f h k c = f.done k (omega arith)
