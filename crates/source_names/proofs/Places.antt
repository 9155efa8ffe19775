-- The bytes at two places of a text: `same_bytes` tells of each whether it is the same. By induction on their number.
use Rattle.lib_base.proofs.Prelude.{ℕ, ◌<◌, ◌+◌, ◌-◌, suc, zero, ◌≡◌, sym, true, false, Bool, ◌&&◌, List, get_or, eqb}
use Rattle.lib_base.proofs.Prelude.{ltb, add-one, eqb-true, ltb-false, ltb-true, arith}
use Rattle.lib_base.proofs.Tools.{split}
use Rattle.source_language.proofs.Scans.{and_both}
use Rattle.source_names.specs.Bytes.{same_bytes}

module _ (text : List ℕ) (p q : ℕ) where
  -- a byte is the same
  abbrev pub SameByte : ℕ → Type 0
  SameByte i = get_or text (p + i) 0 ≡ get_or text (q + i) 0

  pub one_more : {r : Bool} (i : ℕ) → r ≡ same_bytes text p q i → r && eqb (get_or text (p + i) 0) (get_or text (q + i) 0) ≡ same_bytes text p q (i + 1)
  unfolding same_bytes
  one_more i e = rw (add-one i, e)

  -- all of them are, or one is not
  pub each_is : (n : ℕ) → same_bytes text p q n ≡ true → (i : ℕ) → i < n → SameByte i
  unfolding same_bytes
  each_is zero h i l = absurd (omega arith)
  each_is (suc n) h i l =
      let both = and_both (same_bytes text p q n) (eqb (get_or text (p + n) 0) (get_or text (q + n) 0)) h in
      split (ltb i n) (λ t. each_is n both.0 i (ltb-true i n t))
      (λ f.
      let e : n ≡ i = omega (arith, ltb-false i n f) in
      rw e at (eqb-true (get_or text (p + n) 0) (get_or text (q + n) 0) both.1))

  pub last_unlike : (n : ℕ) → 0 < n → (SameByte (n - 1) → ⊥) → false ≡ same_bytes text p q n
  last_unlike n h d = split (same_bytes text p q n) (λ t. absurd (d (each_is n t (n - 1) (omega arith)))) (λ f. sym f)
