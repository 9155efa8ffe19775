-- The tokens of who may send or see, bit by bit of a byte, are those of the players in it. By induction on the bits.
use Rattle.lib_base.proofs.Prelude.{ℕ, ◌<◌, suc, zero, ◌*◌, ◌%◌, ◌/◌, ◌^◌, ◌≡◌, refl, ◌∙◌, sym, ap, ◌≢◌, List, []}
use Rattle.lib_base.proofs.Prelude.{◌∷◌, ◌++◌, eqb, add-one, eqb-true, eqb-false, arith}
use native.Mathlib.Nat.{div-div-eq-div-mul, pow-succ'}
use Rattle.lib_base.proofs.Tools.{split}
use Rattle.source_language.specs.Tokens.{SheetToken, number}
use Rattle.source_rendering.specs.Describe.{players_from, number_tokens, player_tokens}
use Rattle.source_describe.specs.Walk.{bit_tokens, right_tokens}

halved : (m i : ℕ) → m / 2 ^ i / 2 ≡ m / 2 ^ suc i
halved m i = div-div-eq-div-mul m (2 ^ i) 2 ∙ ap (λ (d : ℕ). m / d) (let e : 2 ^ i * 2 ≡ 2 ^ suc i = omega (arith, pow-succ' 2 i) in e)

bits_walk : (k i m r : ℕ) (ts : List SheetToken) → r ≡ m / 2 ^ i → bit_tokens k i r ++ ts ≡ number_tokens (players_from k i m) ts
unfolding bit_tokens players_from number_tokens
bits_walk zero i m r ts e = refl
bits_walk (suc k) i m r ts e =
    let h = bits_walk k (suc i) m (r / 2) ts (ap (λ (x : ℕ). x / 2) e ∙ halved m i) in
    rw (add-one i, e) (split (eqb (m / 2 ^ i % 2) 1) (λ d. rw d (ap (λ (us : List SheetToken). number 0 i ∷ us) (rw e at h))) (λ d. rw d (rw e at h)))

cons_nil : (a : ℕ) (l : List ℕ) → a ∷ l ≡ [] → ⊥
cons_nil a l e = let z : ◌≡◌ {A = ℕ} 0 1 = cc in omega arith

-- no bit is set
no_bits : (k i m r : ℕ) → r ≡ m / 2 ^ i → r < 2 ^ k → players_from k i m ≡ [] → r ≡ 0
unfolding players_from
no_bits zero i m r e h n = omega arith
no_bits (suc k) i m r e h n =
    split (eqb (m / 2 ^ i % 2) 1)
    (λ d. absurd (cons_nil i (players_from k (suc i) m) (rw d at n)))
    (λ d.
    let q : r / 2 ≡ 0 = no_bits k (suc i) m (r / 2) (ap (λ (x : ℕ). x / 2) e ∙ halved m i) (omega (arith, pow-succ' 2 k)) (rw d at n) in
    let w : r % 2 ≢ 1 = λ z. eqb-false (m / 2 ^ i % 2) 1 d (ap (λ (x : ℕ). x % 2) (sym e) ∙ z) in
    omega arith)

all_numbers : (l : List ℕ) (ts : List SheetToken) → l ≢ [] → player_tokens l ts ≡ number_tokens l ts
unfolding number_tokens
all_numbers [] ts h = absurd (h refl)
all_numbers (n ∷ l) ts h = refl

pub right_walks : (m : ℕ) (ts : List SheetToken) → m < 256 → right_tokens m ++ ts ≡ player_tokens (players_from 8 0 m) ts
unfolding players_from
right_walks m ts h =
    split (eqb m 0)
    (λ e. rw (e, eqb-true m 0 e))
    (λ e. rw e (bits_walk 8 0 m m ts (omega arith) ∙ sym (all_numbers (players_from 8 0 m) ts (λ q. eqb-false m 0 e (no_bits 8 0 m m (omega arith) (omega arith) q)))))
