-- The tokens of the code, for those of the definition: they have the same kinds.
use Rattle.std.specs.Prelude.{ℕ, Option, Some, ltb}
use Rattle.lib_base.specs.Basics.{pick}
use Rattle.text_formula.specs.Tokens.{Token, number, behaviour, function, opening, closing, comma}
use Rattle.text_formula.specs.declared.tokens.Token as code
use Rattle.text_formula.specs.declared.tokens.Token.TheVariants.{Number, Name, Function, Opening, Closing, Comma}
use Rattle.text_lexer.specs.declared.Found.{Found}

-- larger numbers are all alike: they are turned down
abbrev pub capped : ℕ → ℕ
capped n = pick (ltb n 2147483648) n 2147483648

abbrev pub token_code : Token → code.Token
token_code (number n) = Number (capped n)
token_code (behaviour i) = Name i
token_code (function f) = Function f
token_code opening = Opening
token_code closing = Closing
token_code comma = Comma

-- a token that takes so many bytes
abbrev pub found : Token → ℕ → Option Found
found t w = Some (record { token = token_code t; bytes = w })
