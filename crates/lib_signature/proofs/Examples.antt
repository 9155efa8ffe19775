-- The table of functions in the papers' own numbers, by computation: 01 "`!` needs one, `if` three, the others two";
-- 02, M-105, "Precedence falls from `!` through `* /`, `+ -`, the four orderings, the two equalities and then `&&` to
-- `||`".
use Rattle.lib_base.proofs.Prelude.{◌≡◌, refl, [], ◌∷◌}
use Rattle.lib_signature.specs.Signature.{last, level, arity, its_spelling, function_at}

-- "Functions 1 to 14"
fourteen : last ≡ 14
fourteen = refl

-- the two-sided operators by levels, the tightest first: 6 `*` and 7 `/`
products : (level 6 ≡ 1) × (level 7 ≡ 1)
unfolding level
products = (refl, refl)

-- 4 `+` and 5 `-`
sums : (level 4 ≡ 2) × (level 5 ≡ 2)
unfolding level
sums = (refl, refl)

-- 8 `>`, 9 `>=`, 10 `<`, 11 `<=`
orderings : (level 8 ≡ 3) × ((level 9 ≡ 3) × ((level 10 ≡ 3) × (level 11 ≡ 3)))
unfolding level
orderings = (refl, (refl, (refl, refl)))

-- 12 `==` and 13 `!=`
equalities : (level 12 ≡ 4) × (level 13 ≡ 4)
unfolding level
equalities = (refl, refl)

-- 2 `&&`, then 1 `||`
connectives : (level 2 ≡ 5) × (level 1 ≡ 6)
unfolding level
connectives = (refl, refl)

-- 3 `!` and 14 `if` stand before their arguments; 0 and 15 are no functions
others : (level 0 ≡ 0) × ((level 3 ≡ 0) × ((level 14 ≡ 0) × (level 15 ≡ 0)))
unfolding level
others = (refl, (refl, (refl, refl)))

arguments : (arity 3 ≡ 1) × ((arity 14 ≡ 3) × ((arity 1 ≡ 2) × (arity 13 ≡ 2)))
unfolding arity
arguments = (refl, (refl, (refl, refl)))

-- their bytes of ASCII: `||`, `!`, `+`, `*`, then `>=`, `!=`, `if`
first_seven : (its_spelling (function_at 1) ≡ (124 ∷ 124 ∷ [])) × ((its_spelling (function_at 3) ≡ (33 ∷ [])) × ((its_spelling (function_at 4) ≡ (43 ∷ []))
    × (its_spelling (function_at 6) ≡ (42 ∷ []))))
first_seven = (refl, (refl, (refl, refl)))

last_seven : (its_spelling (function_at 9) ≡ (62 ∷ 61 ∷ [])) × ((its_spelling (function_at 13) ≡ (33 ∷ 61 ∷ []))
    × (its_spelling (function_at 14) ≡ (105 ∷ 102 ∷ [])))
last_seven = (refl, (refl, refl))
