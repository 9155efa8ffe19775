-- `hand_fits` is `hand_fits` of the word: swapped, the event is the highest byte, and the three that make the player
-- are below 8 just where the lower two are 0 and the third is below 8.
use Rattle.lib_base.proofs.Prelude.{ℕ, ◌≤◌, ◌<◌, ◌+◌, ◌*◌, ◌%◌, ◌/◌, ◌≡◌, ◌&&◌, ◌≢◌, eqb, ltb, eqb-true, le-ltb}
use Rattle.lib_base.proofs.Prelude.{ltb-false, eqb-false, ltb-true, lt-leb, le-leb, arith}
use Rattle.lib_base.proofs.Tools.{split}
use Rattle.lib_word.specs.Halves.{swap_bytes}
use Rattle.lib_word.proofs.Swap.{swap_0}
use Rattle.format_layout.specs.Foreign.{hand_fits}
use Rattle.run_validate.proofs.hand_fits.Statement.{statement}
use Rattle.run_validate.proofs.hand_fits.Tie as tie

-- the player of the word, by the bytes of the swapped one
player_is : (s : ℕ) → s < 4294967296 → swap_bytes s / 256 ≡ s % 256 * 65536 + s / 256 % 256 * 256 + s / 65536 % 256
unfolding swap_bytes
player_is s h = omega arith

low_half : (s : ℕ) → s % 65536 ≡ s % 256 + s / 256 % 256 * 256
low_half s = omega arith

-- of a player by its bytes, where the upper two are 0, and where they are not
third : {p q : ℕ} (a b c : ℕ) → p ≡ a * 65536 + b * 256 + c → q ≡ a + b * 256 → q ≡ 0 → p ≡ c
third a b c d e z = omega arith

large : {p q : ℕ} (a b c : ℕ) → p ≡ a * 65536 + b * 256 + c → q ≡ a + b * 256 → q ≢ 0 → 8 ≤ p
large a b c d e z = omega arith

player_fits : (s : ℕ) → s < 4294967296 → eqb (s % 65536) 0 && ltb (s / 65536 % 256) 8 ≡ ltb (swap_bytes s / 256) 8
player_fits s h =
    split (eqb (s % 65536) 0)
    (λ e. rw (e, third (s % 256) (s / 256 % 256) (s / 65536 % 256) (player_is s h) (low_half s) (eqb-true (s % 65536) 0 e)))
    (λ e.
    rw (e, le-ltb (swap_bytes s / 256) 8 (large (s % 256) (s / 256 % 256) (s / 65536 % 256) (player_is s h) (low_half s) (eqb-false (s % 65536) 0 e))))

fits : (known s : ℕ) → s < 4294967296
    → (ltb (s / 16777216) known && eqb (s % 65536) 0) && ltb (s / 65536 % 256) 8 ≡ hand_fits known (swap_bytes s)
unfolding hand_fits
fits known s h =
    split (ltb (s / 16777216) known)
    (λ e. rw (swap_0 s h, e, lt-leb known (s / 16777216) (ltb-true (s / 16777216) known e)) (player_fits s h))
    (λ e. rw (swap_0 s h, e, le-leb known (s / 16777216) (ltb-false (s / 16777216) known e)))

pub hand_fits_spec : {M : Type 1} → statement M
hand_fits_spec = tie.close (tie.spec (λ c. fits _ _ (omega arith)))
