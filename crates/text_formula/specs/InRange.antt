-- Tokens of functions and behaviours that there are.
use Rattle.std.specs.Prelude.{◌≤◌, ◌<◌}
use Rattle.lib_signature.specs.Signature.{last}
use Rattle.text_formula.specs.Tokens.{Token, number, behaviour, function, opening, closing, comma}

-- what the tokens of a text can be: names of behaviours 0 to 63, functions 1 to the last
abbrev pub InRange : Token → Type 0
InRange (number n) = Unit {0}
InRange (behaviour i) = i < 64
InRange (function f) = (0 < f) × (f ≤ last)
InRange opening = Unit {0}
InRange closing = Unit {0}
InRange comma = Unit {0}
