-- The token of a mark: a bracket, the comma, or a function by its number.
use Rattle.std.specs.Prelude.{ℕ, eqb}
use Rattle.lib_base.specs.Basics.{pick}
use Rattle.text_marks.specs.Marks.{opening_mark, closing_mark, comma_mark}
use Rattle.text_formula.specs.declared.tokens.Token as code
use Rattle.text_formula.specs.declared.tokens.Token.TheVariants.{Function, Opening, Closing, Comma}

abbrev pub code_of_mark : ℕ → code.Token
code_of_mark m =
    pick (eqb m opening_mark) Opening (pick (eqb m closing_mark) Closing (pick (eqb m comma_mark) Comma (Function m)))
