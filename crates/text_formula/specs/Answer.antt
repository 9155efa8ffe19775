-- What a text answers, and what it leaves in the lent buffer. 02, M-105.
use Rattle.std.specs.Prelude.{ℕ, suc, max, Bool, true, false, List, ◌++◌, length, drop, ltb}
use Rattle.lib_base.specs.Basics.{pick}
use Rattle.spec_language.specs.Syntax.{Expr, con, name, app1, app2, app3}
use Rattle.spec_language.specs.Sheet.{as_sent}
use Rattle.spec_language.specs.Grammar.{encode_expr}
use Rattle.spec_language.specs.Answers.{told}

-- a number exceeds 2,147,483,647
unfoldable pub large : Expr → Bool
large (con n) = ltb 2147483647 n
large (name i) = false
large (app1 f a) = large a
large (app2 f a b) = pick (large a) true (large b)
large (app3 f a b c) = pick (large a) true (pick (large b) true (large c))

-- 01: "A constant or name has nesting 1, an application one more than its deepest argument"; brackets leave no trace in
-- an expression, and so "add no nesting"
unfoldable pub nesting : Expr → ℕ
nesting (con n) = 1
nesting (name i) = 1
nesting (app1 f a) = suc (nesting a)
nesting (app2 f a b) = suc (max (nesting a) (nesting b))
nesting (app3 f a b c) = suc (max (max (nesting a) (nesting b)) (nesting c))

-- the field of an expression; a formula has no parameters
abbrev pub formula_field : Expr → List ℕ
formula_field e = encode_expr (as_sent e)

-- an answer, and the buffer
abbrev pub answered : ℕ → List ℕ → ℕ × List ℕ
answered r l = (r, l)

-- "22, checked next", "9 comes after 22", "23, checked last"; else the field stands "at the start of a lent buffer,
-- whose other bytes stay", and its length is answered, with 2 ^ 32 to tell it from a refusal
unfoldable pub field_answer : Expr → List ℕ → ℕ × List ℕ
field_answer e buffer =
    pick (large e) (answered 22 buffer)
    (pick (ltb 16 (nesting e)) (answered 9 buffer)
    (pick (ltb (length buffer) (length (formula_field e))) (answered 23 buffer)
    (answered (told (length (formula_field e))) (formula_field e ++ drop (length (formula_field e)) buffer))))
