-- Whether the codes fit, event by event from the last on: those that are left decide, until one does not fit.
use Rattle.lib_base.proofs.Prelude.{ℕ, ◌≤◌, ◌<◌, ◌-◌, ◌≡◌, refl, zero, suc, List, Bool, true, false, ◌∙◌, sym, arith}
use Rattle.lib_base.specs.Basics.{pick}
use Rattle.format_layout.specs.Layout.{event_word}
use Rattle.format_layout.specs.Foreign.{code_fits, codes_fit}

last_code : (t : List ℕ) (i : ℕ) → 0 < i → codes_fit t i ≡ pick (code_fits (event_word t (i - 1) 1) (event_word t (i - 1) 2)) (codes_fit t (i - 1)) false
unfolding codes_fit
last_code t zero h = absurd (omega arith)
last_code t (suc i) h = let s : suc i - 1 ≡ i = omega arith in rw s

-- the last code left does not fit
pub not_fitting : (t : List ℕ) (i p q : ℕ) (x : Bool) → 0 < i → p ≡ event_word t (i - 1) 1 → q ≡ event_word t (i - 1) 2 → x ≡ code_fits p q
    → x ≡ false → false ≡ codes_fit t i
not_fitting t i p q x h d e f g = sym (rw (last_code t i h, ← d, ← e, ← f, g))

-- the last code left does, and those before it decide
pub fitting : (t : List ℕ) (i p q : ℕ) (x : Bool) → 0 < i → p ≡ event_word t (i - 1) 1 → q ≡ event_word t (i - 1) 2 → x ≡ code_fits p q
    → x ≡ true → codes_fit t i ≡ codes_fit t (i - 1)
fitting t i p q x h d e f g = rw (last_code t i h, ← d, ← e, ← f, g)

-- no code is left
pub none_left : (t : List ℕ) (i : ℕ) → i ≤ 0 → codes_fit t i ≡ true
unfolding codes_fit
none_left t i h = let z : i ≡ 0 = omega arith in rw z
