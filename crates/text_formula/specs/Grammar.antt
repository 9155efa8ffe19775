-- The grammar of formulas: which tokens stand for which expression, a constructor for each production. 02, M-105.
use Rattle.std.specs.Prelude.{ℕ, suc, ◌≡◌, List, [], ◌∷◌, ◌++◌}
use Rattle.lib_signature.specs.Signature.{level}
use Rattle.spec_language.specs.Syntax.{Expr, con, name, app1, app2, app3}
use Rattle.text_formula.specs.Tokens.{Token, number, behaviour, function, opening, closing, comma, Tokens}

-- "Precedence falls from `!` through `* /`, `+ -`, the four orderings, the two equalities and then `&&` to `||`": level
-- 0 is `!` and the primaries, and the two-sided operators have levels 1 to 6, which stand in their rows
pub data Operator : ℕ → ℕ → Type 0 where
  operator : {l f : ℕ} → level f ≡ suc l → Operator (suc l) f

-- tokens that are an expression at a level. Each level has the tighter one's; "all two-sided ones grouping to the
-- left": the operand on the right is of the tighter level. "`!` stands before its operand and may be repeated."
pub data Derives : ℕ → List Token → Expr → Type 0 where
  tighter : {l : ℕ} {ts : List Token} {e : Expr} → Derives l ts e → Derives (suc l) ts e
  two_sided : {l f : ℕ} {ts us : List Token} {a b : Expr} → Operator (suc l) f → Derives (suc l) ts a → Derives l us b
      → Derives (suc l) (ts ++ (function f ∷ us)) (app2 f a b)
  negated : {ts : List Token} {a : Expr} → Derives 0 ts a → Derives 0 (function 3 ∷ ts) (app1 3 a)
  a_number : {n : ℕ} → Derives 0 (number n ∷ []) (con n)
  a_name : {i : ℕ} → Derives 0 (behaviour i ∷ []) (name i)
  bracketed : {ts : List Token} {e : Expr} → Derives 6 ts e → Derives 0 (opening ∷ (ts ++ (closing ∷ []))) e
  choice : {ts us vs : List Token} {a b c : Expr} → Derives 6 ts a → Derives 6 us b → Derives 6 vs c
      → Derives 0 (function 14 ∷ opening ∷ (ts ++ (comma ∷ (us ++ (comma ∷ (vs ++ (closing ∷ []))))))) (app3 14 a b c)

-- a text within the grammar, and the expression that it stands for; numbers are exact here, however large
pub data Formula : List ℕ → Expr → Type 0 where
  formula : {text : List ℕ} {ts : List Token} {e : Expr} → Tokens text ts → Derives 6 ts e → Formula text e
