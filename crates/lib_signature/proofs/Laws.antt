-- What holds of every row of the signature, by a check of each, and of the numbers beyond.
use Rattle.lib_base.proofs.Prelude.{ℕ, ◌≤◌, ◌<◌, suc, ◌≡◌, refl, ap, true, false, Bool, false≢true, not, ◌≢◌, []}
use Rattle.lib_base.proofs.Prelude.{◌∷◌, List·getD-eq-default, eqb, ltb, leb, ne_eqb, eqb-true, lt-ltb, eqb-false}
use Rattle.lib_base.proofs.Prelude.{ltb-true, ltb-false, leb-false, leb-true, le-ltb, sym, arith}
use Rattle.lib_base.specs.Basics.{pick}
use Rattle.lib_base.proofs.Tools.{split, past, through, all_below, each_below}
use Rattle.lib_signature.specs.Signature.{function, functions, its_level, function_at, level, arity, last}
use Rattle.lib_signature.specs.Numbers.{its_arity, not_fn, if_fn}

-- ---- arities

arity_fine : ℕ → Bool
arity_fine f = pick (eqb f 0) true (eqb (arity f) (its_arity (function_at f)))

arities_fine : all_below (suc last) arity_fine ≡ true
unfolding all_below arity_fine arity
arities_fine = refl

-- a function's arity is its row's
arity_row : (f : ℕ) → 0 < f → f ≤ last → arity f ≡ its_arity (function_at f)
unfolding arity_fine
arity_row f h l =
    eqb-true (arity f) (its_arity (function_at f)) (rw (ne_eqb f 0 (omega arith)) at (each_below (suc last) arity_fine arities_fine f (omega arith)))

-- two arguments: neither `!` nor `if`
pub two_is : (f : ℕ) → arity f ≡ 2 → (f ≢ not_fn) × (f ≢ if_fn)
unfolding arity
two_is f h = ((λ e. let q = rw e at h in omega arith), (λ e. let q = rw e at h in omega arith))

pub is_two : (f : ℕ) → f ≢ not_fn → f ≢ if_fn → arity f ≡ 2
unfolding arity
is_two f h g = rw (ne_eqb f not_fn h, ne_eqb f if_fn g)

-- ---- levels

-- a number that is no function's has level 0
pub level_beyond : (f : ℕ) → last < f → level f ≡ 0
unfolding level
level_beyond f h = ap its_level (List·getD-eq-default (function [] 0 0 ∷ functions) (function [] 0 0) {n = f} (omega arith))

-- a level is at most 6, and only the functions of two arguments have one
level_fine : ℕ → Bool
level_fine f =
    pick (leb (level f) 6)
    (pick (ltb 0 (level f)) (pick (eqb f 0) false (eqb (arity f) 2)) (pick (eqb f 0) true (not (eqb (arity f) 2))))
    false

levels_fine : all_below (suc last) level_fine ≡ true
unfolding all_below level_fine level arity
levels_fine = refl

level_checked : (f : ℕ) → f ≤ last
    → (leb (level f) 6 ≡ true) × (pick (ltb 0 (level f)) (pick (eqb f 0) false (eqb (arity f) 2)) (pick (eqb f 0) true (not (eqb (arity f) 2))) ≡ true)
unfolding level_fine
level_checked f h = through (leb (level f) 6) _ (each_below (suc last) level_fine levels_fine f (omega arith))

pub level_most : (f : ℕ) → level f ≤ 6
level_most f =
    split (leb f last) (λ e. leb-true (level f) 6 (level_checked f (leb-true f last e)).0)
    (λ e. omega (arith, level_beyond f (leb-false f last e)))

-- what has a level is a function of two arguments
pub level_two : (f : ℕ) → 0 < level f → (0 < f) × (f ≤ last) × (arity f ≡ 2)
level_two f h =
    split (leb f last)
    (λ e.
    let l = leb-true f last e in
    let k = past (eqb f 0) (eqb (arity f) 2) (rw (lt-ltb 0 (level f) h) at (level_checked f l).1) in
    (omega (arith, eqb-false f 0 k.0), l, eqb-true (arity f) 2 k.1))
    (λ e. absurd (omega (arith, level_beyond f (leb-false f last e))))

-- and each of these has one
pub two_level : (f : ℕ) → 0 < f → f ≤ last → arity f ≡ 2 → 0 < level f
two_level f h l e =
    split (ltb 0 (level f)) (λ d. ltb-true 0 (level f) d)
    (λ d. absurd (false≢true (rw (d, ne_eqb f 0 (omega arith), e) at (level_checked f l).1)))

-- ---- the code's arms

-- the functions of a stretch have one level
unfoldable pub level_at : ℕ → ℕ → ℕ → ℕ → Bool
level_at a b l f = pick (ltb f a) true (pick (ltb b f) true (eqb l (level f)))

pub level_in : (a b l f : ℕ) → a ≤ f → f ≤ b → f ≤ last → all_below (suc last) (level_at a b l) ≡ true → l ≡ level f
unfolding level_at
level_in a b l f p q h e =
    eqb-true l (level f) (rw (le-ltb f a p, le-ltb b f q) at (each_below (suc last) (level_at a b l) e f (omega arith)))

-- and the others have none
level_none : ℕ → Bool
level_none f =
    pick (eqb f 1) true (pick (eqb f 2) true (pick (ltb f 4) (eqb 0 (level f)) (pick (ltb 13 f) (eqb 0 (level f)) true)))

levels_none : all_below (suc last) level_none ≡ true
unfolding all_below level_none level
levels_none = refl

pub level_out : (f : ℕ) → f ≢ 1 → f ≢ 2 → (4 ≤ f → 13 < f) → 0 ≡ level f
unfolding level_none
level_out f p q h =
    split (leb f last)
    (λ e.
    let z = rw (ne_eqb f 1 p, ne_eqb f 2 q) at (each_below (suc last) level_none levels_none f (omega (arith, leb-true f last e))) in
    split (ltb f 4) (λ b. eqb-true 0 (level f) (rw b at z))
    (λ b. eqb-true 0 (level f) (rw (b, lt-ltb 13 f (h (ltb-false f 4 b))) at z)))
    (λ e. sym (level_beyond f (leb-false f last e)))
