-- The checks after the reading, by the code's tokens and the field's bytes.
use Rattle.std.specs.Prelude.{ℕ, ◌+◌, ◌-◌, Bool, false, ◌≡◌, List, [], ◌∷◌, ◌++◌, map, length, drop, ltb, eqb}
use Rattle.std.specs.List.{list_any}
use Rattle.lib_base.specs.Basics.{pick, All}
use Rattle.spec_language.specs.Refusals.{too_deep, large_number, short_field}
use Rattle.text_formula.specs.Tokens.{Token}
use Rattle.text_formula.specs.InRange.{InRange}
use Rattle.text_formula.specs.Reader.{wholly, read_at}
use Rattle.text_formula.specs.Answer.{answered}
use Rattle.text_formula.specs.Formula.{answer_to}
use Rattle.text_formula.specs.declared.tokens.Token as code
use Rattle.text_formula.specs.declared.tokens.Token.TheVariants.{Number, Name, Function, Opening, Closing, Comma}
use Rattle.text_lexer.specs.Codes.{token_code}

abbrev pub large_code : code.Token → Bool
large_code (Number n) = ltb 2147483647 n
large_code (Name i) = false
large_code (Function f) = false
large_code Opening = false
large_code Closing = false
large_code Comma = false

abbrev pub any_large : List code.Token → Bool
any_large ts = list_any large_code ts

-- how many brackets are open after a token, and one; 0 where one is closed that was not opened
abbrev pub open_after : ℕ → code.Token → ℕ
open_after n (Number v) = n
open_after n (Name i) = n
open_after n (Function f) = n
open_after n Opening = n + 1
open_after n Closing = n - 1
open_after n Comma = n

-- whether the brackets of the tokens match, where n - 1 are open before them
unfoldable pub balanced_from : ℕ → List code.Token → Bool
balanced_from n [] = eqb n 1
balanced_from n (t ∷ ts) = pick (eqb n 0) false (balanced_from (open_after n t) ts)

-- the answer for a field v, by whether a number is too large, and its nesting
unfoldable pub delivered : Bool → ℕ → List ℕ → List ℕ → ℕ × List ℕ
delivered large depth v buffer =
    pick large (answered large_number buffer)
    (pick (ltb 16 depth) (answered too_deep buffer)
    (pick (ltb (length buffer) (length v)) (answered short_field buffer)
    (answered (4294967296 + length v) (v ++ drop (length v) buffer))))

-- for whatever tokens the code's tokens cs stand for: the answer is that to their reading
abbrev pub Translated : List code.Token → List ℕ → ℕ × List ℕ → Type 0
Translated cs buffer a = (ts : List Token) → All InRange ts → cs ≡ map token_code ts → a ≡ answer_to (wholly (read_at 6 (length ts) ts)) buffer
