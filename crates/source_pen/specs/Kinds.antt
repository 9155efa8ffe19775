-- The tokens that the pen writes, as the language's, and which of them it can write.
use Rattle.std.specs.Prelude.{ℕ, ◌<◌, ◌≤◌, ◌∷◌}
use Rattle.lib_base.specs.Words.{byte_values, word_values}
use Rattle.lib_signature.specs.Signature.{last}
use Rattle.source_language.specs.Tokens.{SheetToken, number, name, sign, opening, end_sign}
use Rattle.source_rendering.specs.Describe.{digits}
use Rattle.source_pen.specs.declared.Token.{Token}
use Rattle.source_pen.specs.declared.Token.TheVariants.{Sign, Number, Name}

-- a function's number, or that of a sign of the text's own
abbrev pub IsSign : ℕ → Type 0
IsSign c = (0 < c) × (last < c → opening ≤ c) × (c ≤ end_sign)

abbrev pub token_of : Token → SheetToken
token_of (Sign c) = sign 0 c
token_of (Number n) = number 0 n
token_of (Name letter i) = name 0 (letter ∷ digits i)

abbrev pub Writable : Token → Type 0
Writable (Sign c) = IsSign c
Writable (Number n) = n < word_values
Writable (Name letter i) = i < byte_values
