-- What the reader's functions promise: that they read what the definition's functions read (`read_at`), and write its
-- bytes.
use Rattle.std.specs.Prelude.{ℕ, suc, ◌+◌, ◌*◌, ◌-◌, ◌≤◌, ◌<◌, ◌≡◌, Option, Some, None, List, ◌++◌, map, length, take, drop}
use Rattle.lib_base.specs.Basics.{All}
use Rattle.spec_language.specs.Syntax.{Expr, con, name, app1, app2, app3}
use Rattle.spec_language.specs.Refusals.{no_formula}
use Rattle.spec_language.specs.Limits.{formula_bytes, field_bytes}
use Rattle.text_formula.specs.Tokens.{Token}
use Rattle.text_formula.specs.InRange.{InRange}
use Rattle.text_formula.specs.Reader.{Parsed, unparsed, parsed, past, choice_of, read_at}
use Rattle.text_formula.specs.Answer.{nesting, formula_field}
use Rattle.text_formula.specs.Nesting.{deeper}
use Rattle.text_lexer.specs.Codes.{capped, token_code}
use Rattle.text_phrase.specs.Phrase.{read_refusal, read_place, read_end, read_depth}
use Rattle.text_formula.specs.declared.tokens.Token as code
use Rattle.text_phrase.specs.declared.Read.{Read}

-- an expression with its numbers as far as they count, and its field
unfoldable pub bounded : Expr → Expr
bounded (con n) = con (capped n)
bounded (name i) = name i
bounded (app1 f a) = app1 f (bounded a)
bounded (app2 f a b) = app2 f (bounded a) (bounded b)
bounded (app3 f a b c) = app3 f (bounded a) (bounded b) (bounded c)

unfoldable pub expression_bytes : Expr → List ℕ
expression_bytes e = formula_field (bounded e)

-- an expression is read up to a place, and its field stands from n to the end; with those before it, nested d deep, it
-- nests so deep
pub record ExpressionWritten (ts : List Token) (d n : ℕ) (o p : List ℕ) (r : Option Read) (e : Expr) (rest : List Token) : Type 0 where
  pub number : read_refusal r ≡ 0
  pub onward : rest ≡ drop (read_place r) ts
  pub size : read_end r ≡ n + length (expression_bytes e)
  pub written : take (read_end r) p ≡ take n o ++ expression_bytes e
  pub nests : read_depth r ≡ deeper d (nesting e)

-- the answer r, with the bytes p, is what the definition's function reads
abbrev pub Agrees : List Token → ℕ → ℕ → List ℕ → List ℕ → Option Read → Parsed → Type 0
Agrees ts d n o p r unparsed = read_refusal r ≡ no_formula
Agrees ts d n o p r (parsed e rest) = ExpressionWritten ts d n o p r e rest

-- for whatever tokens the code's tokens cs stand for, and any bound that is large enough
abbrev pub Reading : ℕ → List code.Token → ℕ → ℕ → List ℕ → List ℕ → Option Read → Type 0
Reading l cs at n o p r =
    (ts : List Token) → All InRange ts → cs ≡ map token_code ts → (k : ℕ) → length cs - at ≤ k → Agrees ts 0 n o p r (read_at l k (drop at ts))

abbrev pub ChoiceRead : List code.Token → ℕ → ℕ → List ℕ → List ℕ → Option Read → Type 0
ChoiceRead cs at n o p r =
    (ts : List Token) → All InRange ts → cs ≡ map token_code ts → (k : ℕ) → length cs - at ≤ suc k → Agrees ts 0 n o p r (choice_of (read_at 6 k) (drop (at + 1) ts))

-- a reading goes on within the tokens; a token gives at most seven bytes and one level of nesting
abbrev pub ReadWithin : ℕ → ℕ → ℕ → ℕ → Option Read → Type 0
ReadWithin size at n d None = Unit {0}
ReadWithin size at n d (Some r) = (at < r.at) × (r.at ≤ size) × (n ≤ r.end) × (r.end + at * 7 ≤ n + r.at * 7) × (r.depth + at ≤ d + r.at)

-- a formula's tokens, and a buffer for the largest field that they may give
abbrev pub FieldRoom : List code.Token → List ℕ → Type 0
FieldRoom cs out = (length cs ≤ formula_bytes) × (length out ≡ field_bytes)

abbrev pub ArgumentIn : Read → Type 0
ArgumentIn r = (r.end ≤ r.at * 7) × (r.depth ≤ r.at)

-- an argument after what was read before, and after the bracket or comma of number m
abbrev pub Argued : ℕ → List code.Token → List ℕ → List ℕ → Read → Option Read → Type 0
Argued m cs o p r q =
    ((ts : List Token) → All InRange ts → cs ≡ map token_code ts → (k : ℕ) → length cs - r.at ≤ suc k → Agrees ts r.depth r.end o p q (past m (read_at 6 k) (drop r.at ts)))
    × ReadWithin (length cs) r.at r.end r.depth q
