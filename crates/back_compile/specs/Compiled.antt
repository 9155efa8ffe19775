-- What compile answers and leaves, and the program that a sheet means. 02, M-103.
use Rattle.std.specs.Prelude.{ℕ, List}
use Rattle.lib_word.specs.Word.{get}
use Rattle.spec_language.specs.Syntax.{Program}
use Rattle.spec_language.specs.Sheet.{Sheet, fill}

-- an answer, and the table's bytes after the call
abbrev pub Compiled : Type 0
Compiled = ℕ × List ℕ

abbrev pub compiled : ℕ → List ℕ → Compiled
compiled r t = (r, t)

-- the program that a sheet means with the bytes ps lent for its parameters: parameter n has the value of their word n
abbrev pub program_of : List ℕ → Sheet → Program
program_of ps s = fill (get ps) s
