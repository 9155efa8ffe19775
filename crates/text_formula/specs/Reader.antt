-- The reader of formulas as a function: tokens from left to right, then a function for each level of precedence.
use Rattle.std.specs.Prelude.{ℕ, zero, suc, ◌+◌, ◌*◌, ◌-◌, true, false, List, [], ◌∷◌, length, get_or, drop, ltb, eqb}
use Rattle.std.proofs.Math.Option.{Option, none, some}
use Rattle.lib_base.specs.Basics.{pick}
use Rattle.lib_signature.specs.Numbers.{or_fn, and_fn, not_fn, add_fn, subtract_fn, multiply_fn, divide_fn, above_fn, at_least_fn, below_fn, at_most_fn, equal_fn, unequal_fn, if_fn}
use Rattle.lib_signature.specs.Signature.{level}
use Rattle.spec_language.specs.Syntax.{Expr, con, name, app1, app2, app3}
use Rattle.text_formula.specs.Tokens.{Token, number, behaviour, function, opening, closing, comma}

-- ---- tokens

-- what stands at the front of a text: nothing of ours, or a token and the rest
pub data FirstToken : Type 0 where
  no_token : FirstToken
  begins : Token → List ℕ → FirstToken

-- a digit's number; 10 for another byte
unfoldable pub digit_of : ℕ → ℕ
digit_of b = pick (ltb b 48) 10 (pick (ltb 57 b) 10 (b - 48))

-- a name, by the digits after its letter: a token that is so many bytes wide
unfoldable pub name_of : {A : Type 0} → A → (Token → ℕ → A) → ℕ → ℕ → ℕ → A
name_of miss hit x y z =
    pick (ltb 9 x) miss
    (pick (ltb 9 y) (hit (behaviour x) 2)
    (pick (ltb z 10) miss
    (pick (eqb x 0) miss
    (pick (ltb 63 (x * 10 + y)) miss
    (hit (behaviour (x * 10 + y)) 3)))))

-- the other tokens, by their first two bytes: those that no byte lengthens
unfoldable pub single_of : {A : Type 0} → A → (Token → ℕ → A) → ℕ → A
single_of miss hit b =
    pick (eqb b 40) (hit opening 1)
    (pick (eqb b 41) (hit closing 1)
    (pick (eqb b 44) (hit comma 1)
    (pick (eqb b 43) (hit (function add_fn) 1)
    (pick (eqb b 45) (hit (function subtract_fn) 1)
    (pick (eqb b 42) (hit (function multiply_fn) 1)
    (pick (eqb b 47) (hit (function divide_fn) 1) miss))))))

-- `||`, `&&` and `if`, which need their second byte
unfoldable pub double_of : {A : Type 0} → A → (Token → ℕ → A) → ℕ → ℕ → A
double_of miss hit b c =
    pick (eqb b 124) (pick (eqb c 124) (hit (function or_fn) 2) miss)
    (pick (eqb b 38) (pick (eqb c 38) (hit (function and_fn) 2) miss)
    (pick (eqb b 105) (pick (eqb c 102) (hit (function if_fn) 2) miss)
    (single_of miss hit b)))

-- those that `=` lengthens, and `==`
unfoldable pub marked_of : {A : Type 0} → A → (Token → ℕ → A) → ℕ → ℕ → A
marked_of miss hit b c =
    pick (eqb b 33) (pick (eqb c 61) (hit (function unequal_fn) 2) (hit (function not_fn) 1))
    (pick (eqb b 62) (pick (eqb c 61) (hit (function at_least_fn) 2) (hit (function above_fn) 1))
    (pick (eqb b 60) (pick (eqb c 61) (hit (function at_most_fn) 2) (hit (function below_fn) 1))
    (pick (eqb b 61) (pick (eqb c 61) (hit (function equal_fn) 2) miss)
    (double_of miss hit b c))))

-- a token that is no number
unfoldable pub word_token : {A : Type 0} → A → (Token → ℕ → A) → List ℕ → A
word_token miss hit bs =
    pick (eqb (get_or bs 0 0) 98)
    (name_of miss hit (digit_of (get_or bs 1 0)) (digit_of (get_or bs 2 0)) (digit_of (get_or bs 3 0)))
    (marked_of miss hit (get_or bs 0 0) (get_or bs 1 0))

-- a number goes as far as there are digits
unfoldable pub number_token : ℕ → List ℕ → FirstToken
number_token n [] = begins (number n) []
number_token n (b ∷ bs) = pick (ltb (digit_of b) 10) (number_token (n * 10 + digit_of b) bs) (begins (number n) (b ∷ bs))

unfoldable pub first_of : List ℕ → FirstToken
first_of bs = pick (ltb (digit_of (get_or bs 0 0)) 10) (number_token 0 bs) (word_token no_token (λ t w. begins t (drop w bs)) bs)

abbrev pub put_first : Token → Option (List Token) → Option (List Token)
put_first t none = none
put_first t (some ts) = some (t ∷ ts)

abbrev pub and_on : (List ℕ → Option (List Token)) → FirstToken → Option (List Token)
and_on go no_token = none
and_on go (begins t rest) = put_first t (go rest)

-- all tokens of a text, where `go` reads those further on; spaces are passed over
abbrev pub tokens_in : (List ℕ → Option (List Token)) → List ℕ → Option (List Token)
tokens_in go [] = some []
tokens_in go (b ∷ bs) = elim (eqb b 32) [ true ↦ go bs | false ↦ and_on go (first_of (b ∷ bs)) ]

-- the number bounds the text's bytes
unfoldable pub tokens_of : ℕ → List ℕ → Option (List Token)
tokens_of zero bs = tokens_in (λ rest. none) bs
tokens_of (suc k) bs = tokens_in (tokens_of k) bs

-- ---- expressions

-- the level of a two-sided operator; 0 for another token
abbrev pub level_of : Token → ℕ
level_of (number n) = 0
level_of (behaviour i) = 0
level_of (function f) = level f
level_of opening = 0
level_of closing = 0
level_of comma = 0

abbrev pub operator_of : Token → ℕ
operator_of (number n) = 0
operator_of (behaviour i) = 0
operator_of (function f) = f
operator_of opening = 0
operator_of closing = 0
operator_of comma = 0

-- brackets and comma by number; 0 for another
abbrev pub bracket_of : Token → ℕ
bracket_of (number n) = 0
bracket_of (behaviour i) = 0
bracket_of (function f) = 0
bracket_of opening = 1
bracket_of closing = 2
bracket_of comma = 3

-- an expression read, with the tokens after it, or none
pub data Parsed : Type 0 where
  unparsed : Parsed
  parsed : Expr → List Token → Parsed

abbrev pub then_parse : Parsed → (Expr → List Token → Parsed) → Parsed
then_parse unparsed f = unparsed
then_parse (parsed e ts) f = f e ts

-- past the bracket or comma that is due
abbrev pub past : ℕ → (List Token → Parsed) → List Token → Parsed
past m f [] = unparsed
past m f (t ∷ ts) = pick (eqb (bracket_of t) m) (f ts) unparsed

-- after the operand a at level l: operators of that level, each with an operand that `next` reads; the number bounds
-- them
unfoldable pub operator_chain : ℕ → (List Token → Parsed) → ℕ → Expr → List Token → Parsed
operator_chain l next zero a ts = parsed a ts
operator_chain l next (suc k) a [] = parsed a []
operator_chain l next (suc k) a (t ∷ ts) = pick (eqb (level_of t) l) (then_parse (next ts) (λ b us. operator_chain l next k (app2 (operator_of t) a b) us)) (parsed a (t ∷ ts))

-- level l over `operand`, which reads level 0; the number bounds the tokens
unfoldable pub tower : (List Token → Parsed) → ℕ → ℕ → List Token → Parsed
tower operand k zero ts = operand ts
tower operand k (suc l) ts = then_parse (tower operand k l ts) (λ a us. operator_chain (suc l) (tower operand k l) k a us)

-- in brackets; the three arguments of `if`
unfoldable pub bracketed_of : (List Token → Parsed) → List Token → Parsed
bracketed_of all ts = past 1 (λ us. then_parse (all us) (λ e vs. past 2 (λ ws. parsed e ws) vs)) ts

unfoldable pub choice_of : (List Token → Parsed) → List Token → Parsed
choice_of all ts =
    past 1 (λ us. then_parse (all us) (λ a vs.
    past 3 (λ ws. then_parse (all ws) (λ b xs.
    past 3 (λ ys. then_parse (all ys) (λ c zs.
    past 2 (λ rest. parsed (app3 if_fn a b c) rest) zs)) xs)) vs)) ts

-- `!` and the primaries, where `operand` reads level 0 and `all` a formula
abbrev pub operand_of : (List Token → Parsed) → (List Token → Parsed) → List Token → Parsed
operand_of operand all [] = unparsed
operand_of operand all (number n ∷ ts) = parsed (con n) ts
operand_of operand all (behaviour i ∷ ts) = parsed (name i) ts
operand_of operand all (function f ∷ ts) =
    pick (eqb f not_fn) (then_parse (operand ts) (λ a us. parsed (app1 not_fn a) us)) (pick (eqb f if_fn) (choice_of all ts) unparsed)
operand_of operand all (opening ∷ ts) = bracketed_of all (opening ∷ ts)
operand_of operand all (closing ∷ ts) = unparsed
operand_of operand all (comma ∷ ts) = unparsed

unfoldable pub operand_at : ℕ → List Token → Parsed
operand_at zero ts = unparsed
operand_at (suc k) ts = operand_of (operand_at k) (tower (operand_at k) k 6) ts

-- level l at the front of ts, of at most k tokens
abbrev pub read_at : ℕ → ℕ → List Token → Parsed
read_at l k ts = tower (operand_at k) k l ts

-- ---- the whole

-- nothing is left over
abbrev pub wholly : Parsed → Option Expr
wholly unparsed = none
wholly (parsed e []) = some e
wholly (parsed e (t ∷ ts)) = none

abbrev pub read_tokens : Option (List Token) → Option Expr
read_tokens none = none
read_tokens (some ts) = wholly (read_at 6 (length ts) ts)

unfoldable pub read_formula : List ℕ → Option Expr
read_formula text = read_tokens (tokens_of (length text) text)
