-- The lowest bit that is set is the first number of the set; what the first says of the others.
use Rattle.lib_base.proofs.Prelude.{ℕ, ◌≤◌, ◌<◌, ◌^◌, ◌≡◌, refl, ◌∙◌, ap, sym, true, false, Bool, true≢false, by_cases, eqb, dec_lt, arith}
use Rattle.std.proofs.lemmas.Nat.Bits.{bit_at-trailing_zeros}
use Rattle.std.specs.Int.{w64, trailing_zeros}
use Rattle.std.specs.Int.Count.{trailing_of_zero}
use Rattle.std.specs.Prelude.{Option, Some, None}
use Rattle.std.specs.Option.{IsSome}
use Rattle.lib_bits.specs.Bits.{bit}
use Rattle.lib_bits.proofs.BitLaws.{bit_none}
use Rattle.check_graph.specs.Any.{any_below}
use Rattle.check_graph.specs.First.{FirstOf}
use Rattle.check_graph.proofs.Any.{any_none}

lowest_set : (set : ℕ) → 0 < set → set < 2 ^ 64 → (trailing_zeros w64 set < 64) × (bit set (trailing_zeros w64 set) ≡ true) × ((j : ℕ) → j < trailing_zeros w64 set → bit set j ≡ false)
unfolding bit
lowest_set set h k =
    let w = bit_at-trailing_zeros w64 set h k in
    (w.0, ap (λ (x : ℕ). eqb x 1) w.1, λ j b. ap (λ (x : ℕ). eqb x 1) (w.2 j b))

lowest_zero : (set : ℕ) → set ≤ 0 → trailing_zeros w64 set ≡ 64
lowest_zero set h = let z : set ≡ 0 = omega arith in rw z (trailing_of_zero 64)

pub lowest_first : (set n : ℕ) → set < 2 ^ 64 → n ≤ 64 → trailing_zeros w64 set < n → FirstOf (bit set) n (Some (trailing_zeros w64 set))
lowest_first set n k few h =
    by_cases (dec_lt 0 set)
    (λ p. let w = lowest_set set p k in (h, w.1, w.2))
    (λ p. let z = lowest_zero set (omega arith) in absurd (omega (arith, z)))

pub lowest_none : (set n : ℕ) → set < 2 ^ 64 → n ≤ trailing_zeros w64 set → FirstOf (bit set) n None
lowest_none set n k h j b =
    by_cases (dec_lt 0 set)
    (λ p. let w = lowest_set set p k in w.2 j (omega arith))
    (λ p. let z : set ≡ 0 = omega arith in rw z (bit_none j))

-- ---- what it says

-- by the same test
pub first_alike : (f g : ℕ → Bool) (n : ℕ) → ((h : ℕ) → h < n → f h ≡ g h) → (o : Option ℕ) → FirstOf f n o → FirstOf g n o
first_alike f g n e None w = λ h b. sym (e h b) ∙ w h b
first_alike f g n e (Some r) w = (w.0, sym (e r w.0) ∙ w.1, λ h b. sym (e h (omega (arith, w.0))) ∙ w.2 h b)

-- where there is any
pub first_there : (f : ℕ → Bool) (n : ℕ) (o : Option ℕ) → FirstOf f n o → any_below n f ≡ true → IsSome o
first_there f n None w t = absurd (true≢false (sym t ∙ any_none n f w))
first_there f n (Some h) w t = refl
