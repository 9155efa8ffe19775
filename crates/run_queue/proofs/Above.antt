-- Whether one waits above a priority, slot by slot from the last on: those left decide, until one is above.
use Rattle.lib_base.proofs.Prelude.{ℕ, ◌≤◌, ◌<◌, ◌-◌, ◌≡◌, refl, zero, suc, List, true, false, ◌∙◌, sym, ltb, lt-ltb, le-ltb, arith}
use Rattle.lib_base.specs.Basics.{pick}
use Rattle.format_layout.specs.Layout.{event_word, event_at}
use Rattle.run_queue.specs.Queue.{any_above}

last_slot : (t l : List ℕ) (p i : ℕ) → 0 < i
    → any_above t l p i ≡ pick (ltb p (event_word t (event_at l (i - 1)) 0)) true (any_above t l p (i - 1))
unfolding any_above
last_slot t l p zero h = absurd (omega arith)
last_slot t l p (suc i) h = let s : suc i - 1 ≡ i = omega arith in rw s

-- the last slot left is above
pub is_above : (t l : List ℕ) (p i q : ℕ) → 0 < i → q ≡ event_word t (event_at l (i - 1)) 0 → p < q → true ≡ any_above t l p i
is_above t l p i q h e g = sym (rw (last_slot t l p i h, ← e, lt-ltb p q g))

-- the last slot left is not, and those before it decide
pub not_above : (t l : List ℕ) (p i q : ℕ) → 0 < i → q ≡ event_word t (event_at l (i - 1)) 0 → q ≤ p
    → any_above t l p i ≡ any_above t l p (i - 1)
not_above t l p i q h e g = rw (last_slot t l p i h, ← e, le-ltb p q g)

-- no slot is left
pub none_above : (t l : List ℕ) (p i : ℕ) → i ≤ 0 → any_above t l p i ≡ false
unfolding any_above
none_above t l p i h = let z : i ≡ 0 = omega arith in rw z
