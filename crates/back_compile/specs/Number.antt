-- Compile's number for a sheet, whatever table is lent.
use Rattle.std.specs.Prelude.{ℕ, List, replicate}
use Rattle.back_compile.specs.Verdict.{compile_on}

-- compile's number for a sheet and the bytes lent for its parameters, with a full table
unfoldable pub number_on : List ℕ → List ℕ → ℕ
number_on s ps = (compile_on s ps (replicate 34816 0)).0
