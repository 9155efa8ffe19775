-- A set of players as a word: a number is known by its bits, digit by digit (`low_bits`), so a word with the bits of
-- players 0 to 7 and no other is `bits_below 8` of them.
use Rattle.lib_base.proofs.Prelude.{ℕ, ◌≤◌, ◌<◌, ◌+◌, suc, zero, ◌*◌, ◌%◌, ◌/◌, ◌^◌, ◌≡◌, refl, ◌∙◌, sym, ap, false}
use Rattle.lib_base.proofs.Prelude.{Bool, ◌||◌, List, [], ◌∷◌, ◌++◌, eqb, pow-suc, ne_eqb, arith}
use native.Mathlib.Nat.{mod-eq_of_lt, mod-lt, zero-lt-suc}
use lib.Pow.{mod-pow-add, shr-shr}
use Rattle.lib_base.specs.Basics.{pick, All}
use Rattle.lib_base.proofs.Tools.{by_test, split}
use Rattle.lib_bits.specs.Bits.{bit}
use Rattle.source_language.specs.Meaning.{among_players, bits_below}

-- ---- a number's digits

digit_weighs : (d : ℕ) (b : Bool) (w : ℕ) → d < 2 → eqb d 1 ≡ b → d * w ≡ pick b w 0
digit_weighs zero b w h e = rw (← e) (omega arith)
digit_weighs (suc zero) b w h e = rw (← e) (omega arith)
digit_weighs (suc (suc d)) b w h e = absurd (omega arith)

low_bits : (n m : ℕ) (ms : List ℕ) → ((i : ℕ) → i < n → bit m i ≡ among_players i ms) → m % 2 ^ n ≡ bits_below n ms
unfolding bits_below bit
low_bits zero m ms h = omega arith
low_bits (suc n) m ms h =
    let s : suc n ≡ 1 + n = omega arith in
    let q : m % 2 ^ suc n ≡ m / 2 ^ n % 2 * 2 ^ n + m % 2 ^ n = ap (λ k. m % 2 ^ k) s ∙ mod-pow-add m 1 n in
    let d : m / 2 ^ n % 2 * 2 ^ n ≡ pick (among_players n ms) (2 ^ n) 0 =
    digit_weighs (m / 2 ^ n % 2) (among_players n ms) (2 ^ n) (mod-lt (m / 2 ^ n) (zero-lt-suc 1)) (h n (omega arith)) in
    let r = low_bits n m ms (λ i g. h i (omega arith)) in
    q ∙ rw (d, r) (omega arith)

below_power : (n : ℕ) → n < 2 ^ n
below_power zero = omega arith
below_power (suc n) = omega (arith, below_power n, pow-suc 2 n)

none_below : (n : ℕ) → bits_below n [] ≡ 0
unfolding bits_below among_players
none_below zero = refl
none_below (suc n) = rw (none_below n)

no_bits : (m : ℕ) → ((i : ℕ) → bit m i ≡ false) → m ≡ 0
unfolding among_players
no_bits m h = sym (mod-eq_of_lt (below_power m)) ∙ low_bits m m [] (λ i g. h i) ∙ none_below m

-- ---- players

high_absent : (ms : List ℕ) (i : ℕ) → All (λ n. n ≤ 7) ms → 8 ≤ i → among_players i ms ≡ false
unfolding among_players
high_absent [] i h g = refl
high_absent (m ∷ ms) i h g = rw (ne_eqb i m (omega arith)) (high_absent ms i h.1 g)

pub players_more : (ms : List ℕ) (v i : ℕ) → among_players i (ms ++ (v ∷ [])) ≡ among_players i ms || eqb i v
unfolding among_players
players_more [] v i = by_test (λ b. b ≡ eqb i v) (eqb i v) (λ e. sym e) (λ e. sym e)
players_more (m ∷ ms) v i =
    split (eqb i m) (λ e. rw e) (λ e. rw e (players_more ms v i))

-- a word whose bits are these players is their number
pub players_are : (mask : ℕ) (ms : List ℕ) → All (λ n. n ≤ 7) ms → ((i : ℕ) → bit mask i ≡ among_players i ms) → mask ≡ bits_below 8 ms
unfolding bit
players_are mask ms h g =
    let z : mask / 2 ^ 8 ≡ 0 =
    no_bits (mask / 2 ^ 8) (λ i. ap (λ k. eqb (k % 2) 1) (shr-shr mask 8 i) ∙ g (8 + i) ∙ high_absent ms (8 + i) h (omega arith)) in
    let s : mask ≡ mask % 2 ^ 8 = omega arith in
    s ∙ low_bits 8 mask ms (λ i b. g i)
