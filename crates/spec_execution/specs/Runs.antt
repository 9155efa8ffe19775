-- A list of instructions, executed one after the other.
use Rattle.std.specs.Prelude.{List, [], ◌∷◌}
use Rattle.spec_language.specs.Code.{Instr}
use Rattle.spec_execution.specs.Execution.{Values, execute}

unfoldable pub execute_all : List Instr → Values → Values
execute_all [] d = d
execute_all (i ∷ is) d = execute_all is (execute i d)
