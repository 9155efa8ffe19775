-- The first of some answers that is not 0.
use Rattle.std.specs.Prelude.{ℕ, zero, suc, true, false, eqb}

-- of k answers, from that for number i on; 0 if there is none
unfoldable pub first_from : ℕ → ℕ → (ℕ → ℕ) → ℕ
first_from zero i answer = 0
first_from (suc k) i answer = elim (eqb (answer i) 0) [ true ↦ first_from k (suc i) answer | false ↦ answer i ]
