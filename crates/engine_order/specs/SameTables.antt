-- The same program on both phones: a table's 34,816 bytes depend on sheet and parameters alone, whatever the buffer
-- held. So two tables that differ in one of them are not of one sheet with one filling.
use Rattle.std.specs.Prelude.{ℕ, ◌<◌, ◌≡◌, List, get_or}
use Rattle.lib_base.specs.Basics.{All}
use Rattle.back_compile.specs.Verdict.{compile_on}

abbrev pub SameTables : Type 0
SameTables =
    (s ps t u : List ℕ) → All (λ b. b < 256) s → All (λ b. b < 256) ps → (compile_on s ps t).0 ≡ 0 → (compile_on s ps u).0 ≡ 0
    → (j : ℕ) → j < 34816 → get_or (compile_on s ps t).1 j 0 ≡ get_or (compile_on s ps u).1 j 0
