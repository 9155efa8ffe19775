-- The signature of the language: one row for each function, in the order of their numbers from 1 on. 01 "Functions 1 to
-- 14", "Arithmetic"; spellings and precedence as in 02, M-105. Numbers, arities, levels and spellings are taken from
-- here; what the functions mean is in lib_arith (specs/Functions.antt).
use Rattle.std.specs.Prelude.{ℕ, List, [], ◌∷◌, length, get_or, eqb}
use Rattle.lib_base.specs.Basics.{pick}

-- a function: its spelling in bytes of ASCII, how many arguments it needs, and its level
pub data Function : Type 0 where
  function : List ℕ → ℕ → ℕ → Function

abbrev pub its_spelling : Function → List ℕ
its_spelling (function s n l) = s

abbrev pub its_level : Function → ℕ
its_level (function s n l) = l

-- "`!` needs one, `if` three, the others two." "Precedence falls from `!` through `* /`, `+ -`, the four orderings, the
-- two equalities and then `&&` to `||`": the two-sided operators have levels 1 to 6, the tightest first, others level 0
abbrev pub functions : List Function
functions =
    -- 1 `||`, 2 `&&`, 3 `!`
    function (124 ∷ 124 ∷ []) 2 6 ∷ function (38 ∷ 38 ∷ []) 2 5 ∷ function (33 ∷ []) 1 0
    -- 4 `+`, 5 `-`, 6 `*`, 7 `/`
    ∷ function (43 ∷ []) 2 2 ∷ function (45 ∷ []) 2 2 ∷ function (42 ∷ []) 2 1 ∷ function (47 ∷ []) 2 1
    -- 8 `>`, 9 `>=`, 10 `<`, 11 `<=`
    ∷ function (62 ∷ []) 2 3 ∷ function (62 ∷ 61 ∷ []) 2 3 ∷ function (60 ∷ []) 2 3 ∷ function (60 ∷ 61 ∷ []) 2 3
    -- 12 `==`, 13 `!=`, 14 `if`
    ∷ function (61 ∷ 61 ∷ []) 2 4 ∷ function (33 ∷ 61 ∷ []) 2 4 ∷ function (105 ∷ 102 ∷ []) 3 0 ∷ []

-- the last number that is a function's
abbrev pub last : ℕ
last = length functions

-- ---- what stands in a function's row; a number that is no function's has no spelling and level 0

abbrev pub function_at : ℕ → Function
function_at f = get_or (function [] 0 0 ∷ functions) f (function [] 0 0)

unfoldable pub level : ℕ → ℕ
level f = its_level (function_at f)

-- branching as the code does; proofs/Laws.antt shows that it is the rows'
unfoldable pub arity : ℕ → ℕ
arity f = pick (eqb f 3) 1 (pick (eqb f 14) 3 2)
