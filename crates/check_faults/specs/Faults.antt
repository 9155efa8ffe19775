-- The faults of a whole program: a name that no behaviour has, a cycle. 01 "Why a call was turned down": 11 and 12.
use Rattle.std.specs.Prelude.{ℕ, ◌+◌, ◌/◌, ◌%◌, Bool, true, ◌&&◌, List, [], ◌∷◌, ltb}
use Rattle.spec_language.specs.Syntax.{Expr, con, name, app1, app2, app3, Handler, handler, Behaviour, passive, active, Program}
use Rattle.spec_language.specs.Dependence.{size, events, depends_on}
use Rattle.spec_language.specs.Order.{up_to}
use Rattle.spec_language.specs.Code.{one?}
use Rattle.check_graph.specs.Any.{any_below}
use Rattle.check_graph.specs.Matrix.{cell, closed}

-- ---- 11: every name is one of n behaviours

unfoldable pub known_in : ℕ → Expr → Bool
known_in n (con w) = true
known_in n (name i) = ltb i n
known_in n (app1 f a) = known_in n a
known_in n (app2 f a b) = known_in n a && known_in n b
known_in n (app3 f a b c) = known_in n a && (known_in n b && known_in n c)

unfoldable pub known_handlers : ℕ → List Handler → Bool
known_handlers n [] = true
known_handlers n (handler e φ x ∷ hs) = known_in n x && known_handlers n hs

abbrev pub known_behaviour : ℕ → Behaviour → Bool
known_behaviour n (passive x) = known_in n x
known_behaviour n (active s hs) = known_handlers n hs

unfoldable pub known_behaviours : ℕ → List Behaviour → Bool
known_behaviours n [] = true
known_behaviours n (b ∷ bs) = known_behaviour n b && known_behaviours n bs

abbrev pub known : Program → Bool
known p = known_behaviours (size p) p.behaviours

-- ---- 12: under some event, or none, a behaviour reaches itself

-- dependence as a matrix of 64 columns; `closed` adds whatever is reached by a chain
unfoldable pub matrix_of : Program → ℕ → List ℕ
matrix_of p e = up_to 4096 (λ k. one? (depends_on p e (k / 64) (k % 64)))

unfoldable pub cyclic_under : Program → ℕ → Bool
cyclic_under p e = any_below (size p) (λ i. cell (closed (matrix_of p e) (size p)) i i)

unfoldable pub cyclic : Program → Bool
cyclic p = any_below (events p + 1) (cyclic_under p)
