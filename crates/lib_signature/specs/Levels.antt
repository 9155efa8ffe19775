-- Precedence levels by names, as src/levels.rt has them.
use Rattle.std.specs.Prelude.{ℕ}

abbrev pub equality : ℕ
equality = 4

abbrev pub conjunction : ℕ
conjunction = 5

-- the loosest
abbrev pub disjunction : ℕ
disjunction = 6
