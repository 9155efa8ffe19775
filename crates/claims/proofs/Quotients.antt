-- M-102 on words: the quotient of two words that does not run over stands for the whole number below, by the laws of
-- whole numbers; which runs over is known (crate lib_overflow).
use Rattle.lib_base.proofs.Prelude.{ℕ, ◌≤◌, ◌<◌, ◌-◌, ◌^◌, ◌≡◌, refl, ◌∙◌, sym, ap, true, false, Bool, ◌||◌, true≢false}
use Rattle.lib_base.proofs.Prelude.{◌≢◌, ◌⊎◌, ⊎_elim, inr, eqb, ltb, ne_eqb, eqb-true, le-ltb, lt-ltb, ltb-false}
use Rattle.lib_base.proofs.Prelude.{eqb-false, arith}
use lib.IntN.{ℤ, pos, negsuc, ◌+ℤ◌, ◌*ℤ◌}
use lib.Signed.{lt_z, ◌≤ℤ◌, ◌<ℤ◌}
use Rattle.lib_base.proofs.Tools.{split}
use Rattle.lib_arith.specs.Exact.{signed, wrapped, beyond}
use Rattle.lib_arith.specs.Functions.{floor_z, exact, result_of}
use Rattle.lib_arith.proofs.Laws.{view}
use Rattle.lib_arith.proofs.FloorLaws.{floor_at_most, floor_next_above, floor_at_least, floor_next_below, floor_by_zero}
use Rattle.lib_overflow.proofs.Laws.{quotient_within, quotient_by_minus_one}

neither : (x y : Bool) → (x || y) ≡ false → (x ≡ false) × (y ≡ false)
neither true y h = absurd (true≢false h)
neither false y h = (refl, h)

-- two numbers of which neither is below the other
same : (a b : ℕ) → (ltb a b || ltb b a) ≡ false → b ≡ a
same a b h =
    let n = neither (ltb a b) (ltb b a) h in
    omega (arith, ltb-false a b n.0, ltb-false b a n.1)

same_number : (z w : ℤ) → (lt_z z w || lt_z w z) ≡ false → w ≡ z
same_number (pos a) (pos b) h = ap pos (same a b h)
same_number (pos a) (negsuc b) h = absurd (true≢false h)
same_number (negsuc a) (pos b) h = absurd (true≢false h)
same_number (negsuc a) (negsuc b) h = ap negsuc (sym (same b a h))

exact_stays : (z : ℤ) → beyond z ≡ false → signed (wrapped z) ≡ z
unfolding beyond
exact_stays z h = same_number z (signed (wrapped z)) h

module _ (a b c : ℕ) (ha : a < 2 ^ 32) (hb : b < 2 ^ 32) (some : b ≢ 0) (k : (a ≢ 2 ^ 31) ⊎ (b ≢ 2 ^ 32 - 1)) where
  within : beyond (floor_z (signed a) (signed b)) ≡ false
  within =
      split (eqb b 4294967295)
      (λ e. let m : b ≡ 4294967295 = eqb-true b 4294967295 e in
      let n : a ≢ 2147483648 = ⊎_elim (λ h. h) (λ h. absurd (h m)) k in
      sym (quotient_by_minus_one (view a ha) (view b hb) m) ∙ ne_eqb a 2147483648 n)
      (λ e. sym (quotient_within (view a ha) (view b hb) some (eqb-false b 4294967295 e)))

  quotient : signed (result_of 7 a b c) ≡ floor_z (signed a) (signed b)
  unfolding result_of exact
  quotient = exact_stays (floor_z (signed a) (signed b)) within

signed_low : (b : ℕ) → b < 2 ^ 31 → signed b ≡ pos b
signed_low b h = rw (lt-ltb b (2 ^ 31) h)

signed_high : (b : ℕ) → 2 ^ 31 ≤ b → signed b ≡ negsuc (2 ^ 32 - 1 - b)
signed_high b h = rw (le-ltb b (2 ^ 31) h)

module _ (a b c : ℕ) (ha : a < 2 ^ 32) (lo : 0 < b) (hb : b < 2 ^ 31) where
  positive : signed (result_of 7 a b c) ≡ floor_z (signed a) (pos b)
  positive = quotient a b c ha (omega arith) (λ z. omega arith) (inr (λ z. omega arith)) ∙ ap (floor_z (signed a)) (signed_low b hb)

  pub at_most : (signed (result_of 7 a b c) *ℤ signed b) ≤ℤ signed a
  at_most = rw (positive, signed_low b hb) (floor_at_most (signed a) b lo)

  pub next_above : signed a <ℤ ((signed (result_of 7 a b c) +ℤ pos 1) *ℤ signed b)
  next_above = rw (positive, signed_low b hb) (floor_next_above (signed a) b lo)

module _ (a b c : ℕ) (ha : a < 2 ^ 32) (lo : 2 ^ 31 ≤ b) (hb : b < 2 ^ 32) (k : (a ≢ 2 ^ 31) ⊎ (b ≢ 2 ^ 32 - 1)) where
  negative : signed (result_of 7 a b c) ≡ floor_z (signed a) (negsuc (2 ^ 32 - 1 - b))
  negative = quotient a b c ha hb (λ z. omega arith) k ∙ ap (floor_z (signed a)) (signed_high b lo)

  pub at_least : signed a ≤ℤ (signed (result_of 7 a b c) *ℤ signed b)
  at_least = rw (negative, signed_high b lo) (floor_at_least (signed a) (2 ^ 32 - 1 - b))

  pub next_below : ((signed (result_of 7 a b c) +ℤ pos 1) *ℤ signed b) <ℤ signed a
  next_below = rw (negative, signed_high b lo) (floor_next_below (signed a) (2 ^ 32 - 1 - b))

pub by_zero : (a c : ℕ) → result_of 7 a 0 c ≡ 0
unfolding result_of exact
by_zero a c = ap wrapped (floor_by_zero (signed a))
