-- What `any_below` says, by induction on the bound.
use Rattle.lib_base.proofs.Prelude.{ℕ, ◌≤◌, ◌<◌, suc, zero, ◌≡◌, refl, ◌∙◌, sym, true, false, Bool, true≢false}
use Rattle.lib_base.proofs.Prelude.{by_cases, dec_lt, arith}
use Rattle.lib_base.proofs.Tools.{split}
use Rattle.check_graph.specs.Any.{any_below}

pub any_none : (n : ℕ) (f : ℕ → Bool) → ((i : ℕ) → i < n → f i ≡ false) → any_below n f ≡ false
unfolding any_below
any_none zero f h = refl
any_none (suc n) f h = rw (h n (omega arith), any_below) (any_none n f (λ i b. h i (omega arith)))

pub any_some : (n : ℕ) (f : ℕ → Bool) (i : ℕ) → i < n → f i ≡ true → any_below n f ≡ true
unfolding any_below
any_some zero f i b e = absurd (omega arith)
any_some (suc n) f i b e =
    split (f n) (λ t. rw (t, any_below)) (λ t. by_cases (dec_lt i n) (λ s. rw (t, any_below) (any_some n f i s e))
    (λ s. let q : i ≡ n = omega arith in absurd (true≢false (sym (rw q at e) ∙ t))))

-- none below n, if there is not any
pub any_never : (n : ℕ) (f : ℕ → Bool) → any_below n f ≡ false → (i : ℕ) → i < n → f i ≡ false
any_never n f h i b = split (f i) (λ t. absurd (true≢false (sym (any_some n f i b t) ∙ h))) (λ t. t)

-- and where there is any, one
pub any_member : (n : ℕ) (f : ℕ → Bool) → any_below n f ≡ true → (i : ℕ) × (i < n) × (f i ≡ true)
unfolding any_below
any_member zero f h = absurd (true≢false (sym h))
any_member (suc n) f h =
    split (f n) (λ t. (n, omega arith, t)) (λ t. let w = any_member n f (rw (t, any_below) at h) in (w.0, omega (arith, w.1), w.2))

pub any_same : (n : ℕ) (f g : ℕ → Bool) → ((i : ℕ) → i < n → f i ≡ g i) → any_below n f ≡ any_below n g
unfolding any_below
any_same zero f g h = refl
any_same (suc n) f g h =
    let q : f n ≡ g n = h n (omega arith) in
    split (g n) (λ t. rw (q ∙ t, t, any_below)) (λ t. rw (q ∙ t, t, any_below) (any_same n f g (λ i b. h i (omega arith))))

-- none beyond n: those below it decide
pub any_short : (n k : ℕ) (f : ℕ → Bool) → n ≤ k → ((i : ℕ) → n ≤ i → f i ≡ false) → any_below k f ≡ any_below n f
unfolding any_below
any_short n zero f h e = let z : n ≡ 0 = omega arith in rw z
any_short n (suc k) f h e =
    by_cases (dec_lt k n)
    (λ s. let z : n ≡ suc k = omega arith in rw z)
    (λ s. rw (e k (omega arith), any_below) (any_short n k f (omega arith) e))
