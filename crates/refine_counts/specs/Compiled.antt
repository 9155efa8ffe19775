-- The table that compile leaves for an accepted sheet tells its program's counts of events and behaviours, and each
-- event's rank.
use Rattle.std.specs.Prelude.{ℕ, List}
use Rattle.spec_language.specs.Sheet.{Sheet}
use Rattle.back_compile.specs.Verdict.{compile_on}
use Rattle.back_compile.specs.Compiled.{program_of}
use Rattle.run_counts.specs.Tells.{Tells}
use Rattle.refine_lists.specs.Lists.{Prepared}

-- x is the sheet of the bytes s, with the bytes ps lent for its parameters; l, any with room for a round, is not asked
abbrev pub EveryTable : Type 0
EveryTable = (s ps t l : List ℕ) (x : Sheet) → Prepared s ps t l x → Tells (program_of ps x) (compile_on s ps t).1
