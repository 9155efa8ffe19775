-- How an expression stands to a behaviour b, as a number: 0 it does not name b, 2 it names b, 3 it adds to b; "name"
-- directly or through passives. Worked out from its parts: of an expression, and of its nodes in the draft, on a stack
-- of marks, the topmost first. (What it decides: crate ask_commute, Meets.antt, `Refers` and `Adds`.)
use Rattle.std.specs.Prelude.{ℕ, zero, suc, ◌+◌, ◌*◌, Bool, false, List, [], ◌∷◌, get_or, take, drop, eqb}
use Rattle.lib_base.specs.Basics.{pick}
use Rattle.lib_signature.specs.Numbers.{not_fn, if_fn, add_fn, subtract_fn}
use Rattle.spec_language.specs.Syntax.{Expr, con, name, app1, app2, app3, Program}
use Rattle.spec_language.specs.Dependence.{Response, follows, takes, defers, keeps, response}
use Rattle.draft_form.specs.Entry.{node_tag, node_word}
use Rattle.check_reads.specs.Named.{through_passives}

-- ---- from marks to marks

-- of name j, where `leads` tells which lead to b through passives
unfoldable pub name_mark : (ℕ → Bool) → ℕ → ℕ → ℕ
name_mark leads b j = pick (eqb j b) 3 (pick (leads j) 2 0)

-- of `!`
unfoldable pub one_mark : ℕ → ℕ
one_mark a = pick (eqb a 0) 0 2

-- of a function of two: a sum adds where one adds and the other does not name b, their marks being 3 and 0; a
-- difference where the first adds and the second does not
unfoldable pub two_mark : ℕ → ℕ → ℕ → ℕ
two_mark f a b =
    pick (eqb (a + b) 0) 0
    (pick (eqb f add_fn) (pick (eqb (a + b) 3) 3 2) (pick (eqb f subtract_fn) (pick (eqb a 3) (pick (eqb b 0) 3 2) 2) 2))

-- of `if`: it adds where its condition does not name b and both others add
unfoldable pub if_mark : ℕ → ℕ → ℕ → ℕ
if_mark c a b = pick (eqb (c + (a + b)) 0) 0 (pick (eqb c 0) (pick (eqb (a + b) 6) 3 2) 2)

-- ---- of an expression

unfoldable pub mark_of : Program → ℕ → Expr → ℕ
mark_of p b (con w) = 0
mark_of p b (name i) = name_mark (λ k. through_passives p k b) b i
mark_of p b (app1 f x) = one_mark (mark_of p b x)
mark_of p b (app2 f x y) = two_mark f (mark_of p b x) (mark_of p b y)
mark_of p b (app3 f c x y) = if_mark (mark_of p b c) (mark_of p b x) (mark_of p b y)

-- a handler of b adds to it
abbrev pub adds_by : Program → ℕ → Response → Bool
adds_by p b (follows x) = false
adds_by p b (takes x) = eqb (mark_of p b x) 3
adds_by p b (defers x) = eqb (mark_of p b x) 3
adds_by p b keeps = false

-- event e's does
unfoldable pub adds_of : Program → ℕ → ℕ → Bool
adds_of p e b = adds_by p b (response p e b)

-- ---- of nodes

-- a mark on the stack, which holds 32; what is below them is dropped
unfoldable pub push_mark : List ℕ → ℕ → List ℕ
push_mark s m = m ∷ take 31 s

-- a function takes its arguments' marks from the stack; where there is none, 0
unfoldable pub applied_mark : ℕ → List ℕ → List ℕ
applied_mark f s =
    pick (eqb f not_fn) (push_mark (drop 1 s) (one_mark (get_or s 0 0)))
    (pick (eqb f if_fn) (push_mark (drop 3 s) (if_mark (get_or s 2 0) (get_or s 1 0) (get_or s 0 0)))
    (push_mark (drop 2 s) (two_mark f (get_or s 1 0) (get_or s 0 0))))

unfoldable pub mark_step : (ℕ → Bool) → ℕ → List ℕ → ℕ → List ℕ
mark_step leads b s x =
    pick (eqb (node_tag x) 17) (push_mark s (name_mark leads b (node_word x)))
    (pick (eqb (node_tag x) 18) (applied_mark (node_word x) s) (push_mark s 0))

-- n nodes from `start` on
unfoldable pub marks_among : (ℕ → Bool) → ℕ → List ℕ → ℕ → ℕ → List ℕ
marks_among leads b d start zero = []
marks_among leads b d start (suc k) = mark_step leads b (marks_among leads b d start k) (get_or d (start + k) 0)

-- the stack as one number, a mark in two bits, the topmost lowest
unfoldable pub marks_packed : List ℕ → ℕ
marks_packed [] = 0
marks_packed (m ∷ s) = marks_packed s * 4 + m
